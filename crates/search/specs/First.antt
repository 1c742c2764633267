-- The first occurrence of a list in a list.
use Rattle.std.specs.Prelude.{Option, Some, None}
use Rattle.std.specs.Prelude.{ℕ, ◌+◌, List, [], ◌∷◌, Bool, true, false, eqb, leb, length, drop}

-- p stands at the start of s
abbrev pub prefix_of : List ℕ → List ℕ → Bool
prefix_of [] s = true
prefix_of (a ∷ p) [] = false
prefix_of (a ∷ p) (b ∷ s) = elim (eqb a b) [ true ↦ prefix_of p s | false ↦ false ]

-- the first offset of s at which p stands, offsets being counted from n
abbrev pub first_from : ℕ → List ℕ → List ℕ → Option ℕ
first_from n p [] = elim (prefix_of p []) [ true ↦ Some n | false ↦ None ]
first_from n p (a ∷ s) = elim (prefix_of p (a ∷ s)) [ true ↦ Some n | false ↦ first_from (n + 1) p s ]

-- the first offset at or after `at` at which p stands in s; an offset past the end has none
abbrev pub first_at : List ℕ → List ℕ → ℕ → Option ℕ
first_at p s at = elim (leb at (length s)) [ true ↦ first_from at p (drop at s) | false ↦ None ]
