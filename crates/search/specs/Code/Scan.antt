-- What the steps of a search tell.
use Rattle.std.specs.Prelude.{ℕ, ◌+◌, ◌<◌, ◌≤◌, ◌≡◌, Bool, ◌==◌, List, length, get_or}

-- p, which is not empty, has room at each offset from `at` up to end
pub record RoomAtEach (p s : List ℕ) (at end : ℕ) : Type 0 where
  pub some : 0 < length p
  pub ordered : at ≤ end
  pub room : end + length p ≤ length s + 1

-- whether b is at a place of a block
abbrev pub is_at : ℕ → List ℕ → ℕ → Bool → Type 0
is_at b block k found = (get_or block k 0 == b) ≡ found
