-- Laws of a scan that goes on from a later offset, and of a test over several offsets that has no branch.
use Prim.Native.Nat.{ℕ, zero, suc, ◌+◌, ◌≤◌}
use native.Mathlib.Nat.{le_trans}
use native.Mathlib.Omega.{arith}
use mathlib.Core.Path.{◌≡◌, refl, sym, ap, ◌∙◌}
use mathlib.Core.Bool.{Bool, true, false, ◌&&◌, ◌||◌}
use Rattle.base.proofs.Tests.{false_true, and_left, and_right, by_leb}
use Rattle.base.specs.Code.Skips.{Skips, SkipsTo, SkipsIf, AllFrom}

module _ (P : ℕ → Type 0) (at : ℕ) where
  -- one offset more
  pub all_more : (n : ℕ) → AllFrom at n P → P (at + n) → AllFrom at (n + 1) P
  all_more n a p k h = by_leb (suc k) n (a k) (λ g. let e : k ≡ n = omega arith in rw e p)

  -- one more, by a test joined with those before it
  pub either_more : (n : ℕ) (hit t : Bool) → (hit ≡ false → AllFrom at n P) → (t ≡ false → P (at + n)) → (hit || t) ≡ false → AllFrom at (n + 1) P
  either_more n true t a p e = false_true (sym e)
  either_more n false t a p e = all_more n (a refl) (p e)

  pub both_more : (n : ℕ) (all t : Bool) → (all ≡ true → AllFrom at n P) → (t ≡ true → P (at + n)) → (all && t) ≡ true → AllFrom at (n + 1) P
  both_more n all t a p e = all_more n (a (and_left all t e)) (p (and_right all t e))

  pub all_fewer : (m n : ℕ) → n ≤ m → AllFrom at m P → AllFrom at n P
  all_fewer m n h a k g = a k (omega arith)

  pub all_first : (n : ℕ) → AllFrom at (suc n) P → P at
  all_first n a = let e : at + 0 ≡ at = omega arith in rw e at (a 0 (omega arith))

  pub all_rest : (n : ℕ) → AllFrom at (suc n) P → AllFrom (at + 1) n P
  all_rest n a k h = let e : at + suc k ≡ at + 1 + k = omega arith in rw e at (a (suc k) (omega arith))

-- offsets that are skipped one by one are skipped at once
pub skips_all : {A : Type 0} (f : ℕ → A) (n at : ℕ) → AllFrom at n (λ i. Skips f i (i + 1)) → Skips f at (at + n)
skips_all f zero at a = let e : at ≡ at + 0 = omega arith in ap f e
skips_all f (suc n) at a =
    let e : at + n + 1 ≡ at + suc n = omega arith in
    skips_all f n at (all_fewer (λ i. Skips f i (i + 1)) at (suc n) n (omega arith) a) ∙ a n (omega arith) ∙ ap f e

module _ {A : Type 0} {f : ℕ → A} where
  pub skips_none : {at end i : ℕ} → at ≤ end → i ≡ at → SkipsTo f at end i
  skips_none h e = record { on = omega arith; within = omega arith; same = ap f (sym e) }

  pub skips_on : {at end i j : ℕ} → SkipsTo f at end i → SkipsTo f i end j → SkipsTo f at end j
  skips_on x y = record { on = le_trans x.on y.on; within = y.within; same = x.same ∙ y.same }

module _ (f : ℕ → Bool) (at i : ℕ) where
  pub skips_yes : (r : Bool) → SkipsIf f at i r → r ≡ true → Skips f at i
  skips_yes r e h = e ∙ ap (λ p. p && f i) h

  pub skips_no : (r : Bool) → SkipsIf f at i r → r ≡ false → f at ≡ false
  skips_no r e h = e ∙ ap (λ p. p && f i) h

  pub skips_if_more : (all t r : Bool) → SkipsIf f at i all → SkipsIf f i (i + 1) t → r ≡ (all && t) → SkipsIf f at (i + 1) r
  skips_if_more true t r e g n = rw n (e ∙ g)
  skips_if_more false t r e g n = rw n e
