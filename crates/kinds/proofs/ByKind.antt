-- Laws by kind number.
use Prim.Native.Nat.{ℕ, zero, suc, ◌+◌, ◌≤◌, ◌<◌}
use native.Mathlib.Omega.{arith}
use native.Mathlib.Decide.{ℕ_discrete, dec_lt}
use mathlib.Core.Path.{◌≡◌, refl, subst}
use mathlib.Core.Bool.{Bool, true, ◌&&◌, ◌||◌}
use lib.Dec.{leb, eqb}
use lib.ListN.{get_or-eq_default}
use borrow.Author.Tests.{leb-true, ne_eqb}
use Rattle.base.proofs.Tests.{and_left, and_right}
use Rattle.kinds.specs.Kinds.{none, slot, target, kind, kinds, kind_of, takes}

-- a rule at each of n numbers from b on
infixr 66 ◌&◌
pub data Span (P : ℕ → Type 0) : ℕ → ℕ → Type 0 where
  end : {b : ℕ} → Span P b 0
  ◌&◌ : {b n : ℕ} → P b → Span P (suc b) n → Span P b (suc n)

pub span : {P : ℕ → Type 0} (b n k : ℕ) → Span P b n → b ≤ k → k < b + n → P k
span b zero k end lo hi = absurd (omega arith)
span {P = P} b (suc n) k (p & more) lo hi = go (ℕ_discrete b k) (λ l h. span (suc b) n k more l h)
  where
    go : Dec (b ≡ k) → (suc b ≤ k → k < suc b + n → P k) → P k
    go (yes e) later = subst P e p
    go (no ne) later = later (omega arith) (omega arith)

-- a number that is none of the n from b on lies behind them
pub past : {k b n : ℕ} → Span (λ j. k ≡ j → ⊥) b n → b ≤ k → b + n ≤ k
past end h = omega arith
past {k = k} {b = b} {n = suc n} (ne & more) h = let r = past more (further b k h ne) in omega (arith, r)
  where
    further : (b k : ℕ) → b ≤ k → (k ≡ b → ⊥) → suc b ≤ k
    further b k h e = omega arith

-- a test of every number below n
unfoldable pub all_below : ℕ → (ℕ → Bool) → Bool
all_below zero f = true
all_below (suc n) f = f n && all_below n f

-- what a test says of the kinds below n, one after the other, it says of each
pub by_kind : (n : ℕ) (f : ℕ → Bool) → all_below n f ≡ true → (k : ℕ) → k < n → f k ≡ true
unfolding all_below
by_kind zero f e k h = absurd (omega arith)
by_kind (suc n) f e k h = go (ℕ_discrete n k) (by_kind n f (and_right (f n) (all_below n f) e) k)
  where
    go : Dec (n ≡ k) → (k < n → f k ≡ true) → f k ≡ true
    go (yes q) below = subst (λ (j : ℕ). f j ≡ true) q (and_left (f n) (all_below n f) e)
    go (no q) below = below (omega arith)

-- a number above 15 is that of no kind
pub no_kind : (k : ℕ) → 16 ≤ k → kind_of k ≡ kind "" none 0
no_kind k h = get_or-eq_default kinds (kind "" none 0) {n = k} h

-- every kind but Halt has a price
pub priced : (k : ℕ) → k < 15 → 1 ≤ (kind_of k).price
unfolding all_below
priced k h = leb-true 1 (kind_of k).price (by_kind 15 (λ j. leb 1 (kind_of j).price) refl k h)

pub unpriced : (k : ℕ) → 15 ≤ k → (kind_of k).price ≡ 0
unpriced k h = go (ℕ_discrete 15 k)
  where
    go : Dec (15 ≡ k) → (kind_of k).price ≡ 0
    go (yes e) = subst (λ (j : ℕ). (kind_of j).price ≡ 0) e refl
    go (no ne) = rw (no_kind k (omega arith))

-- the kinds that take a target, Jump, JumpIfNotZero and JumpIfZero, and those that take a slot, Load and Store
pub takes_target : (k : ℕ) → takes target k ≡ ((eqb k 7 || eqb k 8) || eqb k 14)
takes_target k = go (dec_lt k 16)
  where
    go : Dec (k < 16) → takes target k ≡ ((eqb k 7 || eqb k 8) || eqb k 14)
    go (yes h) = span {P = λ j. takes target j ≡ ((eqb j 7 || eqb j 8) || eqb j 14)} 0 16 k (refl & refl & refl & refl & refl & refl & refl & refl & refl & refl & refl & refl & refl & refl & refl & refl & end) (omega arith) h
    go (no h) = rw (no_kind k (omega arith), ne_eqb k 7 (omega arith), ne_eqb k 8 (omega arith), ne_eqb k 14 (omega arith))

pub takes_slot : (k : ℕ) → takes slot k ≡ (eqb k 11 || eqb k 12)
takes_slot k = go (dec_lt k 16)
  where
    go : Dec (k < 16) → takes slot k ≡ (eqb k 11 || eqb k 12)
    go (yes h) = span {P = λ j. takes slot j ≡ (eqb j 11 || eqb j 12)} 0 16 k (refl & refl & refl & refl & refl & refl & refl & refl & refl & refl & refl & refl & refl & refl & refl & refl & end) (omega arith) h
    go (no h) = rw (no_kind k (omega arith), ne_eqb k 11 (omega arith), ne_eqb k 12 (omega arith))
