-- What a test says, and tests that are joined.
use Prim.Native.Nat.{ℕ, ◌<◌, ◌≤◌}
use mathlib.Core.Path.{◌≡◌, refl, sym, ◌∙◌}
use mathlib.Core.Bool.{Bool, true, false, cond, ◌&&◌, ◌||◌, and-false, or-true}
use borrow.Author.Tests.{le-leb, lt-leb, leb-true, leb-false, eqb-true, eqb-false}
use native.Mathlib.Omega.{arith}
use lib.Dec.{leb, eqb}
use Rattle.base.specs.Range.{within}

pub false_true : {P : Type 0} → false ≡ true → P
false_true e = absurd (let z : ◌≡◌ {A = ℕ} 0 1 = cc in omega arith)

pub and_left : (p q : Bool) → (p && q) ≡ true → p ≡ true
and_left true q e = refl
and_left false q e = e

pub and_right : (p q : Bool) → (p && q) ≡ true → q ≡ true
and_right true q e = e
and_right false q e = false_true e

pub and_both : (p q : Bool) → p ≡ true → q ≡ true → (p && q) ≡ true
and_both p q e f = rw e f

pub and_false_left : (p q : Bool) → (p && q) ≡ false → q ≡ true → p ≡ false
and_false_left true q e h = sym h ∙ e
and_false_left false q e h = refl

pub or_left : (p q : Bool) → (p || q) ≡ false → p ≡ false
or_left true q e = e
or_left false q e = refl

pub or_right : (p q : Bool) → (p || q) ≡ false → q ≡ false
or_right true q e = false_true (sym e)
or_right false q e = e

pub or_by_left : (p q : Bool) → p ≡ true → (p || q) ≡ true
or_by_left p q e = rw e

pub or_by_right : (p q : Bool) → q ≡ true → (p || q) ≡ true
or_by_right p q e = rw e (or-true p)

pub by_or : {P : Type 0} (p q : Bool) → (p || q) ≡ true → (p ≡ true → P) → (q ≡ true → P) → P
by_or true q e y n = y refl
by_or false q e y n = n e

-- two tests that say the same are one
pub bool_ext : (p q : Bool) → (p ≡ true → q ≡ true) → (q ≡ true → p ≡ true) → p ≡ q
bool_ext true q f g = sym (f refl)
bool_ext false true f g = g refl
bool_ext false false f g = refl

pub by_bool : {P : Type 0} (p : Bool) → (p ≡ true → P) → (p ≡ false → P) → P
by_bool true y n = y refl
by_bool false y n = n refl

pub by_leb : {P : Type 0} (a b : ℕ) → (a ≤ b → P) → (b < a → P) → P
by_leb a b y n = by_bool (leb a b) (λ e. y (leb-true a b e)) (λ e. n (leb-false a b e))

pub by_eqb : {P : Type 0} (a b : ℕ) → (a ≡ b → P) → ((a ≡ b → ⊥) → P) → P
by_eqb a b y n = by_bool (eqb a b) (λ e. y (eqb-true a b e)) (λ e. n (eqb-false a b e))

-- a choice that gives true: which way it went
pub by_cond : {P : Type 0} (p x y : Bool) → cond p x y ≡ true → (p ≡ true → x ≡ true → P) → (p ≡ false → y ≡ true → P) → P
by_cond true x y e f g = f refl e
by_cond false x y e f g = g refl e

pub inside : (lo hi a : ℕ) → lo ≤ a → a ≤ hi → within lo hi a ≡ true
inside lo hi a p q = simp (le-leb lo a p, le-leb a hi q)

pub below : (lo hi a : ℕ) → a < lo → within lo hi a ≡ false
below lo hi a p = simp (lt-leb lo a p)

pub above : (lo hi a : ℕ) → hi < a → within lo hi a ≡ false
above lo hi a p = rw (lt-leb a hi p) (and-false (leb lo a))

pub between : (lo hi a : ℕ) → within lo hi a ≡ true → (lo ≤ a) × (a ≤ hi)
between lo hi a w = (leb-true lo a (and_left (leb lo a) (leb a hi) w), leb-true a hi (and_right (leb lo a) (leb a hi) w))

-- a definition's choice by cases, as `cond`
pub choice : {A : Type 0} (b : Bool) (x y : A) → elim b as (λ _. A) [ true ↦ x | false ↦ y ] ≡ cond b x y
choice true x y = refl
choice false x y = refl

-- a test of a number against 0
pub positive : (n : ℕ) → (n ≡ 0 → ⊥) → 0 < n
positive n h = omega arith
