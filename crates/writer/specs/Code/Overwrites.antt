-- What a call that writes into a lent buffer does.
use Rattle.std.specs.Prelude.{ℕ, ◌+◌, ◌≡◌, List, length}
use Rattle.base.specs.Overwrite.{overwrite}

-- the bytes were written over a buffer starting at an offset, and r is the offset behind them
pub record Overwrites (before : List ℕ) (at : ℕ) (bytes after : List ℕ) (r : ℕ) : Type 0 where
  pub is : after ≡ overwrite at bytes before
  pub next : r ≡ at + length bytes
