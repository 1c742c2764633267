-- What stands at the start of a list.
use Prim.Native.Nat.{ℕ, ◌+◌, ◌<◌, ◌≤◌}
use mathlib.Core.Path.{◌≡◌, refl, sym, ap, ◌∙◌}
use mathlib.Core.List.{List, [], ◌∷◌, ◌++◌}
use mathlib.Core.Bool.{Bool, true, false, ◌&&◌}
use Rattle.std.specs.Cmp.Lexicographic.{pointwise}
use borrow.Author.Tests.{eq-eqb, ne_eqb}
use native.Mathlib.Omega.{arith}
use lib.Dec.{eqb}
use lib.ListN.{length, get_or, take, drop, drop_of_length-le, length-append, length-drop, get_or-append}
use lib.Seq.{get_or-drop}
use Rattle.base.proofs.Tests.{by_bool, by_leb, by_eqb, false_true}
use Rattle.base.proofs.Parts.{drop_cons_at}
use Rattle.search.specs.First.{prefix_of}

pub same : (a b : ℕ) (p s : List ℕ) → a ≡ b → prefix_of (a ∷ p) (b ∷ s) ≡ prefix_of p s
same a b p s e = rw (eq-eqb a b e, prefix_of)

pub other : (a b : ℕ) (p s : List ℕ) → (a ≡ b → ⊥) → prefix_of (a ∷ p) (b ∷ s) ≡ false
other a b p s h = rw (ne_eqb a b h, prefix_of)

-- both start with q
pub common : (q p s : List ℕ) → prefix_of (q ++ p) (q ++ s) ≡ prefix_of p s
common [] p s = refl
common (a ∷ q) p s = same a a (q ++ p) (q ++ s) refl ∙ common q p s

pub append : (p s : List ℕ) → prefix_of p (p ++ s) ≡ true
append [] s = refl
append (a ∷ p) s = same a a p (p ++ s) refl ∙ append p s

pub split : (p s : List ℕ) → prefix_of p s ≡ true → s ≡ p ++ drop (length p) s
split [] s e = refl
split (a ∷ p) [] e = false_true e
split (a ∷ p) (b ∷ s) e =
    by_eqb a b
    (λ q. ap (λ (x : ℕ). x ∷ s) (sym q) ∙ ap (λ (t : List ℕ). a ∷ t) (split p s (sym (same a b p s q) ∙ e)))
    (λ q. false_true (sym (other a b p s q) ∙ e))

pub fits : (p s : List ℕ) → prefix_of p s ≡ true → length p ≤ length s
fits p s e = omega (arith, simp length-append at (ap length (split p s e)))

pub too_long : (p s : List ℕ) → length s < length p → prefix_of p s ≡ false
too_long p s h = by_bool (prefix_of p s) (λ e. let f = fits p s e in absurd (omega arith)) (λ e. e)

pub empty : (p s : List ℕ) → length p ≡ 0 → prefix_of p s ≡ true
empty [] s e = refl
empty (a ∷ p) s e = absurd (omega arith)

-- what `starts_with` of a slice tests
pub starts : (p s : List ℕ) → pointwise eqb p (take (length p) s) ≡ prefix_of p s
starts [] s = refl
starts (a ∷ p) [] = refl
starts (a ∷ p) (b ∷ s) =
    by_eqb a b
    (λ e. ap (λ (t : Bool). t && pointwise eqb p (take (length p) s)) (eq-eqb a b e) ∙ starts p s ∙ sym (same a b p s e))
    (λ n. ap (λ (t : Bool). t && pointwise eqb p (take (length p) s)) (ne_eqb a b n) ∙ sym (other a b p s n))

-- where less is left than p has, only an empty p stands
pub no_room : (p s : List ℕ) (at : ℕ) → length s < at + length p → prefix_of p (drop at s) ≡ eqb (length p) 0
no_room p s at h =
    by_eqb (length p) 0
    (λ e. empty p (drop at s) e ∙ sym (eq-eqb (length p) 0 e))
    (λ n. too_long p (drop at s) (simp length-drop (omega arith)) ∙ sym (ne_eqb (length p) 0 n))

-- from place j of p and place i of s on
module _ (p s : List ℕ) (j i k : ℕ) (in_p : j < length p) (in-s : i < length s) (n : k ≡ i + 1) where
  heads : prefix_of (drop j p) (drop i s) ≡ prefix_of (get_or p j 0 ∷ drop (j + 1) p) (get_or s i 0 ∷ drop k s)
  heads = rw (drop_cons_at p j (j + 1) in_p refl, drop_cons_at s i k in-s n)

  pub same_at : get_or p j 0 ≡ get_or s i 0 → prefix_of (drop j p) (drop i s) ≡ prefix_of (drop (j + 1) p) (drop k s)
  same_at e = heads ∙ same (get_or p j 0) (get_or s i 0) (drop (j + 1) p) (drop k s) e

  pub other_at : (get_or p j 0 ≡ get_or s i 0 → ⊥) → prefix_of (drop j p) (drop i s) ≡ false
  other_at h = heads ∙ other (get_or p j 0) (get_or s i 0) (drop (j + 1) p) (drop k s) h

-- where p stands, each of its bytes does
pub each : (p s : List ℕ) (i j k : ℕ) → prefix_of p (drop i s) ≡ true → j < length p → k ≡ i + j → eqb (get_or s k 0) (get_or p j 0) ≡ true
each p s i j k e h n =
    eq-eqb _ _ (ap (λ (m : ℕ). get_or s m 0) n ∙ sym (get_or-drop i s j 0) ∙ ap (λ (t : List ℕ). get_or t j 0) (split p (drop i s) e) ∙ get_or-append p (drop (length p) (drop i s)) 0 j h)

-- one byte
pub single : (p : List ℕ) → length p ≡ 1 → get_or p 0 0 ∷ [] ≡ p
single [] e = absurd (omega arith)
single (a ∷ []) e = refl
single (a ∷ b ∷ p) e = absurd (omega arith)

module _ (b : ℕ) (s : List ℕ) (i : ℕ) where
  pub byte_yes : i < length s → get_or s i 0 ≡ b → prefix_of (b ∷ []) (drop i s) ≡ true
  byte_yes h e = same_at (b ∷ []) s 0 i (i + 1) (omega arith) h refl (sym e)

  pub byte_no : i < length s → (get_or s i 0 ≡ b → ⊥) → prefix_of (b ∷ []) (drop i s) ≡ false
  byte_no h n = other_at (b ∷ []) s 0 i (i + 1) (omega arith) h refl (λ e. n (sym e))

  pub byte_at : prefix_of (b ∷ []) (drop i s) ≡ true → (i < length s) × (get_or s i 0 ≡ b)
  byte_at e =
      by_leb (length s) i
      (λ h. false_true (ap (prefix_of (b ∷ [])) (sym (drop_of_length-le s h)) ∙ e))
      (λ h. (h, by_eqb (get_or s i 0) b (λ q. q) (λ q. false_true (sym (byte_no h q) ∙ e))))
