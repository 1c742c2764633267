-- The first offset, as a relation.
use Rattle.std.specs.Prelude.{ℕ, ◌+◌, ◌<◌, ◌≤◌, ◌≡◌, List, true, false, length, drop}
use Rattle.search.specs.First.{prefix_of}

-- what makes i the first offset at or after `at`
pub record First (p s : List ℕ) (at i : ℕ) : Type 0 where
  pub after : at ≤ i
  pub fits : i + length p ≤ length s
  pub stands : prefix_of p (drop i s) ≡ true
  pub before : (j : ℕ) → at ≤ j → j < i → prefix_of p (drop j s) ≡ false
