-- A line without the carriage return at its end.
use Rattle.std.specs.Prelude.{ℕ, List, [], ◌∷◌, true, false, eqb}

-- less a carriage return at its end
abbrev pub less_return : List ℕ → List ℕ
less_return [] = []
less_return (a ∷ []) = elim (eqb a 13) [ true ↦ [] | false ↦ a ∷ [] ]
less_return (a ∷ b ∷ s) = a ∷ less_return (b ∷ s)
