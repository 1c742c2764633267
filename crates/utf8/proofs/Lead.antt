-- What a text's first byte says of the character that it starts: its alternative of UTF8-char is the only one.
use Prim.Native.Nat.{ℕ, ◌<◌, ◌≤◌}
use mathlib.Core.Path.{◌≡◌, refl, ap, ◌∙◌}
use mathlib.Core.List.{List, [], ◌∷◌}
use mathlib.Core.Bool.{false, cond}
use borrow.Author.Tests.{le-leb, lt-leb, ne_eqb}
use native.Mathlib.Omega.{arith}
use lib.ListN.{length, get_or, drop}
use Rattle.base.proofs.Tests.{below, above, choice}
use Rattle.utf8.specs.Utf8.{utf8, after, after2, after3, utf8_1, utf8_2, utf8_3, utf8_4}

-- a text by its first byte
pub utf8_cons : (a : ℕ) (t : List ℕ) → utf8 (a ∷ t) ≡ cond (utf8_1 a) (utf8 t) (after a t)
utf8_cons a t = choice (utf8_1 a) (utf8 t) (after a t)

pub after_cons : (a b : ℕ) (t : List ℕ) → after a (b ∷ t) ≡ cond (utf8_2 a b) (utf8 t) (after2 a b t)
after_cons a b t = choice (utf8_2 a b) (utf8 t) (after2 a b t)

pub after2_cons : (a b c : ℕ) (t : List ℕ) → after2 a b (c ∷ t) ≡ cond (utf8_3 a b c) (utf8 t) (after3 a b c t)
after2_cons a b c t = choice (utf8_3 a b c) (utf8 t) (after3 a b c t)

pub after3_cons : (a b c d : ℕ) (t : List ℕ) → after3 a b c (d ∷ t) ≡ cond (utf8_4 a b c d) (utf8 t) false
after3_cons a b c d t = choice (utf8_4 a b c d) (utf8 t) false

no_two : (a b : ℕ) → 0xDF < a → utf8_2 a b ≡ false
no_two a b h = simp (above 0xC2 0xDF a h)

three_low : (a b c : ℕ) → a ≤ 0xDF → utf8_3 a b c ≡ false
three_low a b c h = simp (ne_eqb a 0xE0 (λ e. omega arith), below 0xE1 0xEC a (omega arith), ne_eqb a 0xED (λ e. omega arith), below 0xEE 0xEF a (omega arith))

three_high : (a b c : ℕ) → 0xEF < a → utf8_3 a b c ≡ false
three_high a b c h = simp (ne_eqb a 0xE0 (λ e. omega arith), above 0xE1 0xEC a (omega arith), ne_eqb a 0xED (λ e. omega arith), above 0xEE 0xEF a (omega arith))

four_low : (a b c d : ℕ) → a ≤ 0xEF → utf8_4 a b c d ≡ false
four_low a b c d h = simp (ne_eqb a 0xF0 (λ e. omega arith), below 0xF1 0xF3 a (omega arith), ne_eqb a 0xF4 (λ e. omega arith))

-- after the bytes of a character that is none nothing is UTF-8
after3_low : (a b c : ℕ) (t : List ℕ) → a ≤ 0xEF → after3 a b c t ≡ false
after3_low a b c [] h = refl
after3_low a b c (d ∷ t) h = rw (after3_cons a b c d t, four_low a b c d h)

after2_low : (a b : ℕ) (t : List ℕ) → a ≤ 0xDF → after2 a b t ≡ false
after2_low a b [] h = refl
after2_low a b (c ∷ t) h = rw (after2_cons a b c t, three_low a b c h) (after3_low a b c t (omega arith))

lead : (a : ℕ) (t : List ℕ) → 0x7F < a → utf8 (a ∷ t) ≡ after a t
lead a t h = rw (utf8_cons a t, lt-leb a 0x7F h)

lead2 : (a b : ℕ) (t : List ℕ) → 0xDF < a → utf8 (a ∷ b ∷ t) ≡ after2 a b t
lead2 a b t h = rw (lead a (b ∷ t) (omega arith), after_cons a b t, no_two a b h)

lead3 : (a b c : ℕ) (t : List ℕ) → 0xEF < a → utf8 (a ∷ b ∷ c ∷ t) ≡ after3 a b c t
lead3 a b c t h = rw (lead2 a b (c ∷ t) (omega arith), after2_cons a b c t, three_high a b c h)

pub one_is : (a : ℕ) (t : List ℕ) → a ≤ 0x7F → utf8 (a ∷ t) ≡ utf8 t
one_is a t h = rw (utf8_cons a t, le-leb a 0x7F h)

pub two_is : (a b : ℕ) (t : List ℕ) → 0x7F < a → a ≤ 0xDF → utf8 (a ∷ b ∷ t) ≡ cond (utf8_2 a b) (utf8 t) false
two_is a b t g h = lead a (b ∷ t) g ∙ after_cons a b t ∙ ap (cond (utf8_2 a b) (utf8 t)) (after2_low a b t h)

pub three_is : (a b c : ℕ) (t : List ℕ) → 0xDF < a → a ≤ 0xEF → utf8 (a ∷ b ∷ c ∷ t) ≡ cond (utf8_3 a b c) (utf8 t) false
three_is a b c t g h = lead2 a b (c ∷ t) g ∙ after2_cons a b c t ∙ ap (cond (utf8_3 a b c) (utf8 t)) (after3_low a b c t h)

pub four_is : (a b c d : ℕ) (t : List ℕ) → 0xEF < a → utf8 (a ∷ b ∷ c ∷ d ∷ t) ≡ cond (utf8_4 a b c d) (utf8 t) false
four_is a b c d t h = lead3 a b c (d ∷ t) h ∙ after3_cons a b c d t

-- the same by the places of what stands behind the first byte
pub two_at : (a : ℕ) (t : List ℕ) → 1 ≤ length t → 0x7F < a → a ≤ 0xDF → utf8 (a ∷ t) ≡ cond (utf8_2 a (get_or t 0 0)) (utf8 (drop 1 t)) false
two_at a [] n g h = absurd (omega arith)
two_at a (b ∷ t) n g h = two_is a b t g h

pub three_at : (a : ℕ) (t : List ℕ) → 2 ≤ length t → 0xDF < a → a ≤ 0xEF → utf8 (a ∷ t) ≡ cond (utf8_3 a (get_or t 0 0) (get_or t 1 0)) (utf8 (drop 2 t)) false
three_at a [] n g h = absurd (omega arith)
three_at a (b ∷ []) n g h = absurd (omega arith)
three_at a (b ∷ c ∷ t) n g h = three_is a b c t g h

pub four_at : (a : ℕ) (t : List ℕ) → 3 ≤ length t → 0xEF < a → utf8 (a ∷ t) ≡ cond (utf8_4 a (get_or t 0 0) (get_or t 1 0) (get_or t 2 0)) (utf8 (drop 3 t)) false
four_at a [] n h = absurd (omega arith)
four_at a (b ∷ []) n h = absurd (omega arith)
four_at a (b ∷ c ∷ []) n h = absurd (omega arith)
four_at a (b ∷ c ∷ d ∷ t) n h = four_is a b c d t h

-- a text that ends within its first character
pub two_short : (a : ℕ) (t : List ℕ) → 0x7F < a → length t < 1 → utf8 (a ∷ t) ≡ false
two_short a [] h n = lead a [] h
two_short a (b ∷ t) h n = absurd (omega arith)

pub three_short : (a : ℕ) (t : List ℕ) → 0xDF < a → length t < 2 → utf8 (a ∷ t) ≡ false
three_short a [] h n = lead a [] (omega arith)
three_short a (b ∷ []) h n = lead2 a b [] h
three_short a (b ∷ c ∷ t) h n = absurd (omega arith)

pub four_short : (a : ℕ) (t : List ℕ) → 0xEF < a → length t < 3 → utf8 (a ∷ t) ≡ false
four_short a [] h n = lead a [] (omega arith)
four_short a (b ∷ []) h n = lead2 a b [] (omega arith)
four_short a (b ∷ c ∷ []) h n = lead3 a b c [] h
four_short a (b ∷ c ∷ d ∷ t) h n = absurd (omega arith)
