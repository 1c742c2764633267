-- Trimming the encoding of a text of characters is encoding the trimmed text.
use Prim.Native.Nat.{ℕ, ◌+◌, ◌/◌, ◌%◌}
use mathlib.Core.Path.{◌≡◌, refl, sym, ap, ◌∙◌}
use mathlib.Core.List.{List, [], ◌∷◌, ◌++◌, reverse, reverse-reverse}
use mathlib.Core.Bool.{Bool, true, false, cond}
use native.Mathlib.Omega.{arith}
use Rattle.base.proofs.Tests.{by_bool}
use Rattle.trim.specs.Trim.{white1, white2, white3, trimmed_by, start_trimmed, back, end_trimmed, trimmed}
use Rattle.trim.specs.Code.Trims.{back2, back3}
use Rattle.trim.proofs.White.{not1, not2, not3}
use Rattle.trim.proofs.Laws.{yes1, yes2, yes3, no1, no2, no3, start_stays}
use Rattle.utf8.specs.Encode.{encode, encodes}
use Rattle.code_points.specs.White.{white, start_chars, end_chars, trim_chars}
use Rattle.code_points.proofs.Encodes.{by_width, encodes-reverse_cons}
use Rattle.code_points.proofs.White.{white_bytes, white_bytes_lem}

-- a first character of one byte, two or three that is White_Space where `w` is true
module _ (two : ℕ → ℕ → Bool) (three : ℕ → ℕ → ℕ → Bool) where
  first1 : (a : ℕ) (t : List ℕ) (w : Bool) → white1 a ≡ w → ((b : ℕ) → two a b ≡ false) → ((b c : ℕ) → three a b c ≡ false)
      → trimmed_by two three (a ∷ t) ≡ cond w (trimmed_by two three t) (a ∷ t)
  first1 a t true e f g = yes1 two three a t e
  first1 a t false e f g = no1 two three a t e f g

  first2 : (a b : ℕ) (t : List ℕ) (w : Bool) → white1 a ≡ false → two a b ≡ w → ((c : ℕ) → three a b c ≡ false)
      → trimmed_by two three (a ∷ b ∷ t) ≡ cond w (trimmed_by two three t) (a ∷ b ∷ t)
  first2 a b t true e f g = yes2 two three a b t e f
  first2 a b t false e f g = no2 two three a b t e f g

  first3 : (a b c : ℕ) (t : List ℕ) (w : Bool) → white1 a ≡ false → two a b ≡ false → three a b c ≡ w
      → trimmed_by two three (a ∷ b ∷ c ∷ t) ≡ cond w (trimmed_by two three t) (a ∷ b ∷ c ∷ t)
  first3 a b c t true e f g = yes3 two three a b c t e f g
  first3 a b c t false e f g = no3 two three a b c t e f g

module _ (c : ℕ) (t : List ℕ) where
  start_char : start_trimmed (encode c ++ t) ≡ cond (white c) (start_trimmed t) (encode c ++ t)
  start_char =
      by_width (λ l. white_bytes l ≡ white c → start_trimmed (l ++ t) ≡ cond (white c) (start_trimmed t) (l ++ t)) c
      (λ h e. first1 white2 white3 c t (white c) e (λ y. not2 c y (λ p. omega arith)) (λ y z. not3 c y z (λ p. omega arith)))
      (λ g h e.
      let x = 0xC0 + c / 64 in
      let y = 0x80 + c % 64 in
      first2 white2 white3 x y t (white c) (not1 x (omega arith)) e (λ z. not3 x y z (λ p. omega arith)))
      (λ g h e.
      let x = 0xE0 + c / 4096 in
      let y = 0x80 + c / 64 % 64 in
      first3 white2 white3 x y (0x80 + c % 64) t (white c) (not1 x (omega arith)) (not2 x y (λ p. omega arith)) e)
      (λ h e.
      let x = 0xF0 + c / 262144 in
      let s = (0x80 + c / 4096 % 64) ∷ (0x80 + c / 64 % 64) ∷ (0x80 + c % 64) ∷ t in
      start_stays x s (not1 x (omega arith)) (λ p. omega arith) (λ p q. omega arith) ∙ ap (λ (w : Bool). cond w (start_trimmed t) (x ∷ s)) e)
      (white_bytes_lem c)

  back_char : back (reverse (encode c) ++ t) ≡ cond (white c) (back t) (reverse (encode c) ++ t)
  back_char =
      by_width (λ l. white_bytes l ≡ white c → back (reverse l ++ t) ≡ cond (white c) (back t) (reverse l ++ t)) c
      (λ h e. first1 back2 back3 c t (white c) e (λ y. not2 y c (λ p. omega arith)) (λ y z. not3 z y c (λ p. omega arith)))
      (λ g h e.
      let x = 0xC0 + c / 64 in
      let y = 0x80 + c % 64 in
      first2 back2 back3 y x t (white c) (not1 y (omega arith)) e (λ z. not3 z x y (λ p. omega arith)))
      (λ g h e.
      let y = 0x80 + c / 64 % 64 in
      let z = 0x80 + c % 64 in
      first3 back2 back3 z y (0xE0 + c / 4096) t (white c) (not1 z (omega arith)) (not2 y z (λ p. omega arith)) e)
      (λ h e.
      let x = 0x80 + c / 4096 % 64 in
      let y = 0x80 + c / 64 % 64 in
      let z = 0x80 + c % 64 in
      let s = (0xF0 + c / 262144) ∷ t in
      no3 back2 back3 z y x s (not1 z (omega arith)) (not2 y z (λ p. omega arith)) (not3 x y z (λ p. omega arith))
      ∙ ap (λ (w : Bool). cond w (back t) (z ∷ y ∷ x ∷ s)) e)
      (white_bytes_lem c)

-- from one character to a text of them: `f` trims what `E` makes of a text, which starts with what `e` makes of its first character
module _ (f : List ℕ → List ℕ) (e : ℕ → List ℕ) (E : List ℕ → List ℕ)
    (none : f (E []) ≡ E []) (more : (c : ℕ) (cs : List ℕ) → E (c ∷ cs) ≡ e c ++ E cs)
    (char : (c : ℕ) (t : List ℕ) → f (e c ++ t) ≡ cond (white c) (f t) (e c ++ t)) where
  text : (cs : List ℕ) → f (E cs) ≡ E (start_chars cs)
  text [] = none
  text (c ∷ cs) =
      ap f (more c cs) ∙ char c (E cs)
      ∙ by_bool (white c)
      (λ p. rw (p, start_chars) (text cs))
      (λ p. rw (p, start_chars) (sym (more c cs)))

pub start_is : (cs : List ℕ) → start_trimmed (encodes cs) ≡ encodes (start_chars cs)
start_is = text start_trimmed encode encodes refl (λ c cs. refl) start_char

pub end_is : (cs : List ℕ) → end_trimmed (encodes cs) ≡ encodes (end_chars cs)
end_is cs =
    ap (λ (x : List ℕ). end_trimmed (encodes x)) (sym (reverse-reverse cs))
    ∙ ap reverse
    (text back (λ c. reverse (encode c)) (λ cs. reverse (encodes (reverse cs))) refl encodes-reverse_cons back_char (reverse cs))
    ∙ reverse-reverse (encodes (end_chars cs))

pub trim_is : (cs : List ℕ) → trimmed (encodes cs) ≡ encodes (trim_chars cs)
trim_is cs = ap end_trimmed (start_is cs) ∙ end_is (start_chars cs)
