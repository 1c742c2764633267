-- A word at a place of a text, and what the table of kinds says of a line by its first byte.
use Prim.Native.Nat.{ℕ, suc, ◌+◌, ◌<◌, ◌≤◌}
use mathlib.Core.Path.{◌≡◌, refl, sym, ap, ◌∙◌}
use mathlib.Core.List.{List, [], ◌∷◌, ◌++◌}
use mathlib.Core.Bool.{Bool, true, false, cond, ◌&&◌, and-true, and-false}
use borrow.Author.Tests.{eq-eqb, ne_eqb}
use native.Mathlib.Omega.{arith}
use lib.Dec.{eqb}
use lib.ListN.{length, get_or, take, drop, length-append}
use lib.Seq.{drop-drop}
use Rattle.base.proofs.Tests.{by_eqb, by_bool}
use Rattle.search.specs.First.{prefix_of}
use Rattle.search.proofs.Prefix.{same, other, fits}
use Rattle.kinds.specs.Kinds.{none, Kind, kind, kinds, kind_of}
use Rattle.mnemonic.specs.Code.Agree.{and_same}
use Rattle.std.specs.List.{fold, zip}
use Rattle.mnemonic.specs.Kinds.{follows, head_with, head_from, head_of}
use Rattle.mnemonic.specs.Kinds as Kinds
use Rattle.mnemonic.specs.declared.Head.TheVariants.{Alone, Before, Unknown}

-- as many bytes as a word has, each compared with the word's
pub agreed : (w s : List ℕ) (b : Bool) → length w ≤ length s → fold and_same b (zip (take (length w) s) w) ≡ (b && prefix_of w s)
agreed [] s b h = sym (and-true b)
agreed (a ∷ w) [] b h = absurd (omega arith)
agreed (a ∷ w) (x ∷ s) b h = agreed w s (b && eqb x a) (omega arith) ∙ step
  where
    step : (b && eqb x a && prefix_of w s) ≡ (b && prefix_of (a ∷ w) (x ∷ s))
    step =
        by_eqb x a
        (λ e. rw (eq-eqb x a e, same a x w s (sym e), and-true b) refl)
        (λ n. rw (ne_eqb x a n, other a x w s (λ e. n (sym e)), and-false b) refl)

prefix_append : (p q s : List ℕ) → prefix_of (p ++ q) s ≡ (prefix_of p s && prefix_of q (drop (length p) s))
prefix_append [] q s = refl
prefix_append (a ∷ p) q [] = refl
prefix_append (a ∷ p) q (b ∷ s) =
    by_eqb a b
    (λ e. same a b (p ++ q) s e ∙ prefix_append p q s ∙ ap (λ (x : Bool). x && prefix_of q (drop (length p) s)) (sym (same a b p s e)))
    (λ n. other a b (p ++ q) s n ∙ ap (λ (x : Bool). x && prefix_of q (drop (length p) s)) (sym (other a b p s n)))

-- two parts of a word, one right behind the other
pub joined : (p q t : List ℕ) (i : ℕ) → prefix_of (p ++ q) (drop i t) ≡ (prefix_of p (drop i t) && prefix_of q (drop (i + length p) t))
joined p q t i = prefix_append p q (drop i t) ∙ ap (λ (s : List ℕ). prefix_of p (drop i t) && prefix_of q s) (drop-drop (length p) i t)

-- a line is no operation's, or is parted at the word of a kind
pub parted_at : {P : Type 0} (t : List ℕ) → (head_of t ≡ Unknown → P)
    → ((k : ℕ) → k < 16 → Kinds.fits (kind_of k) t ≡ true → head_of t ≡ head_with k (kind_of k) → P) → P
parted_at {P = P} t unknown known = go kinds 0 (λ i h. let z : i ≡ 0 + i = omega arith in ap kind_of z) refl refl
  where
    go : (ws : List Kind) (j : ℕ) → ((i : ℕ) → i < length ws → get_or ws i (kind "" none 0) ≡ kind_of (j + i)) → j + length ws ≡ 16
        → head_of t ≡ head_from j ws t → P
    go [] j same all e = unknown e
    go (w ∷ ws) j same all e =
        let z : j + 0 ≡ j = omega arith in
        let q : w ≡ kind_of j = same 0 (omega arith) ∙ ap kind_of z in
        by_bool (Kinds.fits w t)
        (λ f. known j (omega arith) (ap (λ (x : Kind). Kinds.fits x t) (sym q) ∙ f)
        (e ∙ ap (λ (b : Bool). cond b (head_with j w) (head_from (suc j) ws t)) f ∙ ap (head_with j) q))
        (λ f. go ws (suc j) (λ i h. let m : j + suc i ≡ suc j + i = omega arith in same (suc i) (omega arith) ∙ ap kind_of m) (omega arith)
        (e ∙ ap (λ (b : Bool). cond b (head_with j w) (head_from (suc j) ws t)) f))

-- what follows a kind's word lies within the line
pub rest_within : (t : List ℕ) (k n : ℕ) → head_of t ≡ Before k n → n ≤ length t
rest_within t k n e = parted_at t (λ u. absurd (none_is (sym u ∙ e))) (λ j h f p. here (kind_of j).word (follows (kind_of j).operand) j f (sym p ∙ e))
  where
    none_is : Unknown ≡ Before k n → ⊥
    none_is e = let z : ◌≡◌ {A = ℕ} 0 1 = cc in omega arith

    here : (w : List ℕ) (operand : Bool) (j : ℕ) → cond operand (prefix_of (w ++ 32 ∷ []) t) (prefix_of w t && eqb (length t) (length w)) ≡ true
        → cond operand (Before j (length w + 1)) (Alone j) ≡ Before k n → n ≤ length t
    here w true j f e =
        let z : length w + 1 ≡ n = cc in
        let m = fits (w ++ 32 ∷ []) t f in
        omega (arith, length-append w (32 ∷ []))
    here w false j f e = absurd (let z : ◌≡◌ {A = ℕ} 0 1 = cc in omega arith)
