-- Text that is put together at the start of a buffer.
use Rattle.std.specs.Prelude.{ℕ, ◌≡◌, List, ◌++◌, length, take}
use Rattle.base.specs.Overwrite.{overwrite}

-- the first `len` bytes of a buffer and more behind them, as far as it has room
abbrev pub extended : List ℕ → ℕ → List ℕ → List ℕ
extended out len bytes = take (length out) (take len out ++ bytes)

-- they stand at its start, all else is as before, and r is how many they are
pub record Added (before : List ℕ) (len : ℕ) (bytes after : List ℕ) (r : ℕ) : Type 0 where
  pub is : after ≡ overwrite 0 (extended before len bytes) before
  pub next : r ≡ length (extended before len bytes)
