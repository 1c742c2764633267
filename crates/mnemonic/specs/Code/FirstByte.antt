-- The first byte of a text.
use Rattle.std.specs.Prelude.{ℕ, ◌<◌, ◌≡◌, List, length, get_or}

-- a text that starts with a byte
pub record FirstIs (a : ℕ) (t : List ℕ) : Type 0 where
  pub some : 0 < length t
  pub is : get_or t 0 0 ≡ a
