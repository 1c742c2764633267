-- Lists of texts.
use Rattle.std.specs.Prelude.{ℕ, List, [], ◌∷◌}

-- one more element in front of the first
abbrev pub front : ℕ → List (List ℕ) → List (List ℕ)
front a [] = (a ∷ []) ∷ []
front a (t ∷ ts) = (a ∷ t) ∷ ts

-- a text in front of others, unless it is empty
abbrev pub unless_empty : List ℕ → List (List ℕ) → List (List ℕ)
unless_empty [] ts = ts
unless_empty (a ∷ t) ts = (a ∷ t) ∷ ts
