-- The parameters of the text between the parentheses.
use Rattle.std.specs.Prelude.{ℕ, List, [], ◌∷◌, true, false, eqb}
use Rattle.base.specs.Lists.{is_not, take_while}
pub use Rattle.base.specs.Texts.{front, unless_empty}
use Rattle.trim.specs.Trim.{trimmed}

-- a text cut at commas
abbrev pub pieces : List ℕ → List (List ℕ)
pieces [] = [] ∷ []
pieces (a ∷ s) = elim (eqb a 0x2C) [ true ↦ [] ∷ pieces s | false ↦ front a (pieces s) ]

-- a piece trimmed, cut at its first `:`, trimmed again
abbrev pub name : List ℕ → List ℕ
name p = trimmed (take_while (is_not 0x3A) (trimmed p))

-- the names of pieces, those that are not empty
abbrev pub names : List (List ℕ) → List (List ℕ)
names [] = []
names (p ∷ ps) = unless_empty (name p) (names ps)

abbrev pub parameters : List ℕ → List (List ℕ)
parameters s = names (pieces s)
