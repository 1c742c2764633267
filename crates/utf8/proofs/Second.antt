-- The alternatives of UTF8-3 and UTF8-4 by the range of the second byte.
use Prim.Native.Nat.{ℕ, ◌<◌, ◌≤◌}
use mathlib.Core.Path.{◌≡◌, refl, sym}
use mathlib.Core.Bool.{cond, ◌&&◌, or-false, and_assoc}
use borrow.Author.Tests.{le-leb, lt-leb, ne_eqb}
use native.Mathlib.Omega.{arith}
use lib.Dec.{leb, eqb}
use Rattle.base.specs.Range.{within}
use Rattle.base.proofs.Tests.{inside, below, above, by_eqb, by_leb}
use Rattle.utf8.specs.Utf8.{utf8_tail, utf8_3, utf8_4}

pub three_by : (a b c : ℕ) → 0xDF < a → a ≤ 0xEF → (within (cond (eqb a 0xE0) 0xA0 0x80) (cond (eqb a 0xED) 0x9F 0xBF) b && utf8_tail c) ≡ utf8_3 a b c
three_by a b c g h =
    by_eqb a 0xE0 (λ e. rw e (sym (simp or-false)))
    (λ e. by_eqb a 0xED (λ f. rw f (sym (simp or-false)))
    (λ f. by_leb a 0xEC
    (λ k. rw (ne_eqb a 0xE0 e, ne_eqb a 0xED f, inside 0xE1 0xEC a (omega arith) k, below 0xEE 0xEF a (omega arith)) (sym (simp or-false)))
    (λ k. rw (ne_eqb a 0xE0 e, ne_eqb a 0xED f, above 0xE1 0xEC a k, inside 0xEE 0xEF a (omega arith) h) refl)))

pub four_by : (a b c d : ℕ) → 0xEF < a
    → (leb a 0xF4 && (within (cond (eqb a 0xF0) 0x90 0x80) (cond (eqb a 0xF4) 0x8F 0xBF) b && (utf8_tail c && utf8_tail d))) ≡ utf8_4 a b c d
four_by a b c d g =
    by_eqb a 0xF0 (λ e. rw e (sym (simp or-false (and_assoc (within 0x90 0xBF b) (utf8_tail c) (utf8_tail d)))))
    (λ e. by_eqb a 0xF4 (λ f. rw f (sym (and_assoc (within 0x80 0x8F b) (utf8_tail c) (utf8_tail d))))
    (λ f. by_leb a 0xF3
    (λ k. rw (ne_eqb a 0xF0 e, ne_eqb a 0xF4 f, inside 0xF1 0xF3 a (omega arith) k, le-leb a 0xF4 (omega arith)) (sym (simp or-false (and_assoc (utf8_tail b) (utf8_tail c) (utf8_tail d)))))
    (λ k. rw (ne_eqb a 0xF0 e, ne_eqb a 0xF4 f, above 0xF1 0xF3 a k, lt-leb a 0xF4 (omega arith)) refl)))
