-- UTF-8 by RFC 3629, section 4: the syntax of UTF-8 byte sequences.
use Rattle.std.specs.Prelude.{ℕ, List, [], ◌∷◌, Bool, true, false, ◌&&◌, ◌||◌, eqb, leb}
use Rattle.base.specs.Range.{within}

-- UTF8-tail = %x80-BF
abbrev pub utf8_tail : ℕ → Bool
utf8_tail a = within 0x80 0xBF a

-- UTF8-1 = %x00-7F
abbrev pub utf8_1 : ℕ → Bool
utf8_1 a = leb a 0x7F

-- UTF8-2 = %xC2-DF UTF8-tail
abbrev pub utf8_2 : ℕ → ℕ → Bool
utf8_2 a b = within 0xC2 0xDF a && utf8_tail b

-- UTF8-3 = %xE0 %xA0-BF UTF8-tail / %xE1-EC 2( UTF8-tail ) / %xED %x80-9F UTF8-tail / %xEE-EF 2( UTF8-tail )
abbrev pub utf8_3 : ℕ → ℕ → ℕ → Bool
utf8_3 a b c =
    (eqb a 0xE0 && within 0xA0 0xBF b && utf8_tail c)
    || (within 0xE1 0xEC a && utf8_tail b && utf8_tail c)
    || (eqb a 0xED && within 0x80 0x9F b && utf8_tail c)
    || (within 0xEE 0xEF a && utf8_tail b && utf8_tail c)

-- UTF8-4 = %xF0 %x90-BF 2( UTF8-tail ) / %xF1-F3 3( UTF8-tail ) / %xF4 %x80-8F 2( UTF8-tail )
abbrev pub utf8_4 : ℕ → ℕ → ℕ → ℕ → Bool
utf8_4 a b c d =
    (eqb a 0xF0 && within 0x90 0xBF b && utf8_tail c && utf8_tail d)
    || (within 0xF1 0xF3 a && utf8_tail b && utf8_tail c && utf8_tail d)
    || (eqb a 0xF4 && within 0x80 0x8F b && utf8_tail c && utf8_tail d)

-- UTF8-octets = *( UTF8-char ), UTF8-char = UTF8-1 / UTF8-2 / UTF8-3 / UTF8-4
abbrev mutual
  pub utf8 : List ℕ → Bool
  utf8 [] = true
  utf8 (a ∷ s) = elim (utf8_1 a) [ true ↦ utf8 s | false ↦ after a s ]

  pub after : ℕ → List ℕ → Bool
  after a [] = false
  after a (b ∷ s) = elim (utf8_2 a b) [ true ↦ utf8 s | false ↦ after2 a b s ]

  pub after2 : ℕ → ℕ → List ℕ → Bool
  after2 a b [] = false
  after2 a b (c ∷ s) = elim (utf8_3 a b c) [ true ↦ utf8 s | false ↦ after3 a b c s ]

  pub after3 : ℕ → ℕ → ℕ → List ℕ → Bool
  after3 a b c [] = false
  after3 a b c (d ∷ s) = elim (utf8_4 a b c d) [ true ↦ utf8 s | false ↦ false ]
