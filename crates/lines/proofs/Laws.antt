-- Laws of the lines of a text.
use Prim.Native.Nat.{ℕ}
use mathlib.Core.Path.{◌≡◌, refl, ap}
use mathlib.Core.List.{List, [], ◌∷◌}
use mathlib.Core.Bool.{Bool, true, false, cond, ◌&&◌, and-false}
use borrow.Author.Tests.{ne_eqb, eqb-true}
use lib.Dec.{eqb}
use Rattle.base.proofs.Tests.{by_eqb, by_bool, false_true}
use Rattle.lines.specs.Lines.{front, feed_next, lines}

-- a text by its first element
lines_cons : (a : ℕ) (s : List ℕ) → lines (a ∷ s) ≡ cond (eqb a 10) ([] ∷ lines s) (cond (eqb a 13 && feed_next s) (lines s) (front a (lines s)))
lines_cons a s = go (eqb a 10) (eqb a 13 && feed_next s)
  where
    go : (p q : Bool) → elim p as (λ _. List (List ℕ)) [ true ↦ [] ∷ lines s | false ↦ elim q as (λ _. List (List ℕ)) [ true ↦ lines s | false ↦ front a (lines s) ] ]
        ≡ cond p ([] ∷ lines s) (cond q (lines s) (front a (lines s)))
    go true q = refl
    go false true = refl
    go false false = refl

-- anything but a line feed, and but a carriage return before one, stands in its line
pub lines_other : (a : ℕ) (s : List ℕ) → (a ≡ 10 → ⊥) → (eqb a 13 && feed_next s) ≡ false → lines (a ∷ s) ≡ front a (lines s)
lines_other a s h e = rw (lines_cons a s, ne_eqb a 10 h, e)

feed_is : (s : List ℕ) → feed_next s ≡ true → (t : List ℕ) × (s ≡ 10 ∷ t)
feed_is [] e = false_true e
feed_is (a ∷ s) e = (s, ap (λ (b : ℕ). b ∷ s) (eqb-true a 10 e))

pub no_return : (a : ℕ) (s : List ℕ) → (a ≡ 13 → ⊥) → (eqb a 13 && feed_next s) ≡ false
no_return a s h = rw (ne_eqb a 13 h)

pub no_feed : (a b : ℕ) (s : List ℕ) → (b ≡ 10 → ⊥) → (eqb a 13 && feed_next (b ∷ s)) ≡ false
no_feed a b s h = rw (ne_eqb b 10 h) (and-false (eqb a 13))

-- how a text starts: with a line feed, with a carriage return and a line feed, or with something of its first line
pub by_start : {P : Type 0} (a : ℕ) (s : List ℕ) → (a ≡ 10 → P) → ((t : List ℕ) → a ≡ 13 → s ≡ 10 ∷ t → P) → ((a ≡ 10 → ⊥) → (eqb a 13 && feed_next s) ≡ false → P) → P
by_start a s f r o =
    by_eqb a 10 f
    (λ h. by_eqb a 13
    (λ e. by_bool (feed_next s) (λ n. let t = feed_is s n in r t.0 e t.1) (λ n. o h (rw n (and-false (eqb a 13)))))
    (λ g. o h (no_return a s g)))
