-- Laws of outcomes.
use Prim.Native.Nat.{ℕ}
use mathlib.Core.Path.{◌≡◌, refl}
use native.Mathlib.Omega.{arith}
use Rattle.base.specs.Outcome.{Outcome, is, refused, and_then}

module _ {E A : Type 0} where
  -- a refusal is no value
  pub not_is : {P : Type 0} {e : E} {a : A} → refused e ≡ is a → P
  not_is e = absurd (let z : ◌≡◌ {A = ℕ} 0 1 = cc in omega arith)

  pub is_same : {a b : A} → ◌≡◌ {A = Outcome E A} (is a) (is b) → a ≡ b
  is_same e = cc

  -- where there is a value at the end, the first is one, from which it follows
  pub then_is : {B : Type 0} {b : B} (o : Outcome E A) (f : A → Outcome E B) → and_then o f ≡ is b → (a : A) × (o ≡ is a) × (f a ≡ is b)
  then_is (is a) f e = (a, refl, e)
  then_is (refused x) f e = absurd (let z : ◌≡◌ {A = ℕ} 0 1 = cc in omega arith)

  -- the value is one that Q holds of, or the refusal one that P holds of
  abbrev pub Either : (P : E → Type 0) (Q : A → Type 0) → Outcome E A → Type 0
  Either P Q (is a) = Q a
  Either P Q (refused e) = P e

pub then_either : {E A B : Type 0} (P : E → Type 0) {Q : A → Type 0} (R : B → Type 0) (o : Outcome E A) (f : A → Outcome E B) → Either P Q o → ((a : A) → Q a → Either P R (f a)) → Either P R (and_then o f)
then_either P R (is a) f h k = k a h
then_either P R (refused e) f h k = h
