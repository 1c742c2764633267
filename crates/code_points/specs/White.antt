-- White_Space of Unicode (PropList.txt), and a text of characters without it at its start and at its end.
use Rattle.std.specs.Prelude.{ℕ, List, [], ◌∷◌, reverse, Bool, true, false, ◌||◌, eqb}
use Rattle.base.specs.Range.{within}

abbrev pub white : ℕ → Bool
white c =
    within 0x0009 0x000D c
    || eqb c 0x0020
    || eqb c 0x0085
    || eqb c 0x00A0
    || eqb c 0x1680
    || within 0x2000 0x200A c
    || eqb c 0x2028
    || eqb c 0x2029
    || eqb c 0x202F
    || eqb c 0x205F
    || eqb c 0x3000

abbrev pub start_chars : List ℕ → List ℕ
start_chars [] = []
start_chars (c ∷ cs) = elim (white c) [ true ↦ start_chars cs | false ↦ c ∷ cs ]

abbrev pub end_chars : List ℕ → List ℕ
end_chars cs = reverse (start_chars (reverse cs))

abbrev pub trim_chars : List ℕ → List ℕ
trim_chars cs = end_chars (start_chars cs)
