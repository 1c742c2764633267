-- A text without the White_Space characters at its start and at its end. Each stands here by its bytes in UTF-8.
use Rattle.std.specs.Prelude.{ℕ, ◌-◌, List, [], ◌∷◌, reverse, Bool, true, false, ◌&&◌, ◌||◌, eqb, length}
use Rattle.base.specs.Range.{within}

-- U+0009..000D, U+0020
abbrev pub white1 : ℕ → Bool
white1 a = within 0x09 0x0D a || eqb a 0x20

-- U+0085, U+00A0
abbrev pub white2 : ℕ → ℕ → Bool
white2 a b = eqb a 0xC2 && (eqb b 0x85 || eqb b 0xA0)

-- U+1680; U+2000..200A, U+2028, U+2029, U+202F; U+205F; U+3000
abbrev pub white3 : ℕ → ℕ → ℕ → Bool
white3 a b c =
    (eqb a 0xE1 && eqb b 0x9A && eqb c 0x80)
    || (eqb a 0xE2 && eqb b 0x80 && (within 0x80 0x8A c || within 0xA8 0xA9 c || eqb c 0xAF))
    || (eqb a 0xE2 && eqb b 0x81 && eqb c 0x9F)
    || (eqb a 0xE3 && eqb b 0x80 && eqb c 0x80)

-- a text without the White_Space at its start: the characters of one byte by `white1`, of two by `two`, of three by `three`
module _ (two : ℕ → ℕ → Bool) (three : ℕ → ℕ → ℕ → Bool) where
  abbrev mutual
    pub trimmed_by : List ℕ → List ℕ
    trimmed_by [] = []
    trimmed_by (a ∷ s) = elim (white1 a) [ true ↦ trimmed_by s | false ↦ after1 a s ]

    pub after1 : ℕ → List ℕ → List ℕ
    after1 a [] = a ∷ []
    after1 a (b ∷ s) = elim (two a b) [ true ↦ trimmed_by s | false ↦ after2 a b s ]

    pub after2 : ℕ → ℕ → List ℕ → List ℕ
    after2 a b [] = a ∷ b ∷ []
    after2 a b (c ∷ s) = elim (three a b c) [ true ↦ trimmed_by s | false ↦ a ∷ b ∷ c ∷ s ]

abbrev pub start_trimmed : List ℕ → List ℕ
start_trimmed s = trimmed_by white2 white3 s

-- the same of a text from its last byte to its first: the bytes of a character stand the other way round
abbrev pub back : List ℕ → List ℕ
back s = trimmed_by (λ b a. white2 a b) (λ c b a. white3 a b c) s

abbrev pub end_trimmed : List ℕ → List ℕ
end_trimmed s = reverse (back (reverse s))

abbrev pub trimmed : List ℕ → List ℕ
trimmed s = end_trimmed (start_trimmed s)

-- how many bytes the White_Space takes that a text starts with
abbrev pub leading_blanks : List ℕ → ℕ
leading_blanks s = length s - length (start_trimmed s)
