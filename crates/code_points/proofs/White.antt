-- A character is White_Space just where the bytes of its encoding are.
use Prim.Native.Nat.{ℕ, ◌+◌, ◌/◌, ◌%◌, ◌≤◌}
use mathlib.Core.Path.{◌≡◌, refl, ap, ◌∙◌}
use mathlib.Core.List.{List, [], ◌∷◌}
use mathlib.Core.Bool.{Bool, true, false, ◌||◌, or-true}
use borrow.Author.Tests.{eqb-true, le-leb, lt-leb}
use native.Mathlib.Omega.{arith}
use lib.Dec.{eqb}
use Rattle.base.specs.Range.{within}
use Rattle.base.proofs.Tests.{by_leb, by_or, between, inside, false_true, bool_ext}
use Rattle.trim.specs.Trim.{white1, white2, white3}
use Rattle.trim.proofs.White.{by_white1, by_white2, by_white3}
use Rattle.utf8.specs.Encode.{encode, encode3}
use Rattle.code_points.specs.White.{white}
use Rattle.code_points.proofs.Encodes.{by_width}

-- the test of as many bytes as there are
abbrev pub white_bytes : List ℕ → Bool
white_bytes [] = false
white_bytes (a ∷ []) = white1 a
white_bytes (a ∷ b ∷ []) = white2 a b
white_bytes (a ∷ b ∷ c ∷ []) = white3 a b c
white_bytes (a ∷ b ∷ c ∷ d ∷ s) = false

module _ (c : ℕ) where
  single : (k : ℕ) → white_bytes (encode k) ≡ true → eqb c k ≡ true → white_bytes (encode c) ≡ true
  single k e f = ap (λ (x : ℕ). white_bytes (encode x)) (eqb-true c k f) ∙ e

  low : within 0x0009 0x000D c ≡ true → white_bytes (encode c) ≡ true
  low e = let h = between 0x0009 0x000D c e in simp (le-leb c 0x7F (omega arith), inside 0x0009 0x000D c h.0 h.1)

  high : within 0x2000 0x200A c ≡ true → white_bytes (encode c) ≡ true
  high e =
      let h = between 0x2000 0x200A c e in
      let p : encode c ≡ encode3 c = simp (lt-leb c 0x7F (omega arith), lt-leb c 0x7FF (omega arith), le-leb c 0xFFFF (omega arith)) in
      let x : 0xE0 + c / 4096 ≡ 0xE2 = omega arith in
      let y : 0x80 + c / 64 % 64 ≡ 0x80 = omega arith in
      let z : 0x80 + c % 64 ≤ 0x8A = omega arith in
      rw (p, x, y) (simp (inside 0x80 0x8A (0x80 + c % 64) (omega arith) z))

  -- from a character to its bytes
  to_bytes : white c ≡ true → white_bytes (encode c) ≡ true
  to_bytes e =
      let w1 = within 0x0009 0x000D c in
      let w2 = w1 || eqb c 0x0020 in
      let w3 = w2 || eqb c 0x0085 in
      let w4 = w3 || eqb c 0x00A0 in
      let w5 = w4 || eqb c 0x1680 in
      let w6 = w5 || within 0x2000 0x200A c in
      let w7 = w6 || eqb c 0x2028 in
      let w8 = w7 || eqb c 0x2029 in
      let w9 = w8 || eqb c 0x202F in
      let w10 = w9 || eqb c 0x205F in
      by_or w10 (eqb c 0x3000) e
      (λ e. by_or w9 (eqb c 0x205F) e
      (λ e. by_or w8 (eqb c 0x202F) e
      (λ e. by_or w7 (eqb c 0x2029) e
      (λ e. by_or w6 (eqb c 0x2028) e
      (λ e. by_or w5 (within 0x2000 0x200A c) e
      (λ e. by_or w4 (eqb c 0x1680) e
      (λ e. by_or w3 (eqb c 0x00A0) e
      (λ e. by_or w2 (eqb c 0x0085) e
      (λ e. by_or w1 (eqb c 0x0020) e low (single 0x0020 refl))
      (single 0x0085 refl))
      (single 0x00A0 refl))
      (single 0x1680 refl))
      high)
      (single 0x2028 refl))
      (single 0x2029 refl))
      (single 0x202F refl))
      (single 0x205F refl))
      (single 0x3000 refl)

  one : (k : ℕ) → white k ≡ true → c ≡ k → white c ≡ true
  one k e p = ap white p ∙ e

  -- from the bytes to the character
  from_bytes : white_bytes (encode c) ≡ true → white c ≡ true
  from_bytes =
      by_width (λ l. white_bytes l ≡ true → white c ≡ true) c
      (λ h e. by_white1 c e (λ p q. simp (inside 0x0009 0x000D c p q)) (λ p. one 0x0020 refl p))
      (λ g h e. by_white2 (0xC0 + c / 64) (0x80 + c % 64) e (λ p q. one 0x0085 refl (omega arith)) (λ p q. one 0x00A0 refl (omega arith)))
      (λ g h e. by_white3 (0xE0 + c / 4096) (0x80 + c / 64 % 64) (0x80 + c % 64) e
      (λ p q r. one 0x1680 refl (omega arith))
      (λ p q r s. simp (inside 0x2000 0x200A c (omega arith) (omega arith), or-true))
      (λ p q r s. by_leb c 0x2028 (λ m. one 0x2028 refl (omega arith)) (λ m. one 0x2029 refl (omega arith)))
      (λ p q r. one 0x202F refl (omega arith))
      (λ p q r. one 0x205F refl (omega arith))
      (λ p q r. one 0x3000 refl (omega arith)))
      (λ h e. false_true e)

pub white_bytes_lem : (c : ℕ) → white_bytes (encode c) ≡ white c
white_bytes_lem c = bool_ext (white_bytes (encode c)) (white c) (from_bytes c) (to_bytes c)
