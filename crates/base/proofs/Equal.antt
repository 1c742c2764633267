-- What the test of two texts says: that they are equal.
use Prim.Native.Nat.{ℕ, suc}
use mathlib.Core.Path.{◌≡◌, refl, ap, ap₂}
use mathlib.Core.List.{List, [], ◌∷◌}
use mathlib.Core.Bool.{true, false, and-false}
use lib.Dec.{eqb}
use lib.ListN.{length}
use borrow.Author.Tests.{eq-eqb, eqb-true}
use Rattle.base.proofs.Tests.{false_true, and_left, and_right}
use Rattle.base.specs.Equal.{equal}

pub equal_refl : (s : List ℕ) → equal s s ≡ true
equal_refl [] = refl
equal_refl (a ∷ s) = rw (eq-eqb a a refl) (equal_refl s)

pub equal_true : (s t : List ℕ) → equal s t ≡ true → s ≡ t
equal_true [] [] e = refl
equal_true [] (b ∷ t) e = false_true e
equal_true (a ∷ s) [] e = false_true e
equal_true (a ∷ s) (b ∷ t) e =
    ap₂ ◌∷◌ (eqb-true a b (and_left (eqb a b) (equal s t) e)) (equal_true s t (and_right (eqb a b) (equal s t) e))

-- lists of different lengths differ
pub equal_lengths : (s t : List ℕ) → (length s ≡ length t → ⊥) → equal s t ≡ false
equal_lengths [] [] n = absurd (n refl)
equal_lengths [] (b ∷ t) n = refl
equal_lengths (a ∷ s) [] n = refl
equal_lengths (a ∷ s) (b ∷ t) n = rw (equal_lengths s t (λ e. n (ap suc e))) (and-false (eqb a b))
