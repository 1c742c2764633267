-- What the steps of a scan from the end of a text tell.
use Rattle.std.specs.Prelude.{Option, Some, None}
use Rattle.std.specs.Prelude.{ℕ, ◌+◌, ◌<◌, ◌≡◌, List, false, length, get_or, drop}
use Rattle.path.specs.Stem.{has}

-- b stands at an offset of s and at none behind it
pub record Last (b : ℕ) (s : List ℕ) (i : ℕ) : Type 0 where
  pub inside : i < length s
  pub here : get_or s i 0 ≡ b
  pub behind : has b (drop (i + 1) s) ≡ false

abbrev pub LastAt : ℕ → List ℕ → Option ℕ → Type 0
LastAt b s (Some i) = Last b s i
LastAt b s None = has b s ≡ false
