-- Tags of names: names that differ in them are different, so a block of bindings without a name's tag is passed at once.
use Prim.Native.Nat.{ℕ, zero, suc, ◌+◌, ◌-◌, ◌<◌, ◌≤◌}
use mathlib.Core.Path.{◌≡◌, refl, sym, ap, ◌∙◌}
use mathlib.Core.List.{List, [], ◌∷◌}
use mathlib.Core.Bool.{false, ◌&&◌}
use native.Mathlib.Omega.{arith}
use borrow.Author.Tests.{eq-eqb}
use lib.Dec.{eqb}
use lib.ListN.{length, get_or, take, drop, length-drop}
use Rattle.std.specs.List.{list_any}
use Rattle.std.proofs.lemmas.List.{get_or-take, get_or-drop}
use Rattle.std.proofs.lemmas.List.Folds.{list_any_at}
use Rattle.base.specs.Equal.{equal}
use Rattle.base.proofs.Equal.{equal_true}
use Rattle.base.proofs.Tests.{false_true, by_bool, by_leb}
use Rattle.bindings.specs.Code.Table.{Passes, tag_of, has_name, found}

-- where a name has its tag, the tag's test changes no answer
pub tag_same : (t : ℕ) (w name : List ℕ) → t ≡ tag_of name → (eqb t (tag_of w) && equal w name) ≡ equal w name
tag_same t w name e =
    by_bool (equal w name)
    (λ h. simp (eq-eqb t (tag_of w) (e ∙ ap tag_of (sym (equal_true w name h)))))
    (λ h. by_bool (eqb t (tag_of w)) (λ g. simp g) (λ g. simp (g, h)))

pub tag_empty : (w : List ℕ) → length w ≡ 0 → 0 ≡ tag_of w
unfolding tag_of
tag_empty [] e = refl
tag_empty (a ∷ w) e = absurd (omega arith)

-- one block of other tags more, behind the first n bindings
pub one_block : (tag : ℕ) (t rest : List ℕ) (n : ℕ) → n + 16 ≡ length rest → rest ≡ take (length rest) t → list_any (λ a. eqb a tag) (drop n rest) ≡ false
    → ((k : ℕ) → length rest ≤ k → k < length t → eqb (get_or t k 0) tag ≡ false) → (k : ℕ) → n ≤ k → k < length t → eqb (get_or t k 0) tag ≡ false
one_block tag t rest n e p q f k a b =
    by_leb (length rest) k
    (λ h. f k h b)
    (λ h.
    let y : n + (k - n) ≡ k = omega arith in
    let z : get_or t k 0 ≡ get_or (drop n rest) (k - n) 0 =
    sym (get_or-take (length rest) t k 0 h) ∙ ap (λ (u : List ℕ). get_or u k 0) (sym p) ∙ ap (λ (u : ℕ). get_or rest u 0) (sym y) ∙ sym (get_or-drop n rest (k - n) 0) in
    by_bool (eqb (get_or t k 0) tag)
    (λ g. false_true (sym q ∙ list_any_at (λ a. eqb a tag) (drop n rest) (k - n) 0 (omega (arith, length-drop n rest)) (ap (λ (u : ℕ). eqb u tag) (sym z) ∙ g)))
    (λ g. g))

module _ (s names lens tags w : List ℕ) where
  without_tag : (from n : ℕ) → ((k : ℕ) → from ≤ k → k < from + n → eqb (get_or tags k 0) (tag_of w) ≡ false) → found (from + n) s names lens tags w ≡ found from s names lens tags w
  unfolding found
  without_tag from zero f = let p : from + 0 ≡ from = omega arith in ap (λ (x : ℕ). found x s names lens tags w) p
  without_tag from (suc n) f =
      let p : from + suc n ≡ suc (from + n) = omega arith in
      let t = f (from + n) (omega arith) (omega arith) in
      let q : has_name s names lens tags (from + n) w ≡ false = simp t in
      let g : found (suc (from + n)) s names lens tags w ≡ found (from + n) s names lens tags w = rw (q, found) in
      ap (λ (x : ℕ). found x s names lens tags w) p ∙ g ∙ without_tag from n (λ k a b. f k a (omega arith))

  -- a name with the tag is found among the others alone
  pub passes_same : (n tag r : ℕ) → length (take n tags) ≡ n → Passes (take n tags) tag r → tag ≡ tag_of w → found n s names lens tags w ≡ found r s names lens tags w
  passes_same n tag r m h e =
      let z : n ≡ r + (n - r) = omega (arith, h.fewer, m) in
      ap (λ (x : ℕ). found x s names lens tags w) z
      ∙ without_tag r (n - r) (λ k a b. ap (λ (u : ℕ). eqb u (tag_of w)) (sym (get_or-take n tags k 0 (omega (arith, h.fewer, m)))) ∙ ap (eqb (get_or (take n tags) k 0)) (sym e) ∙ h.others k a (omega (arith, h.fewer, m)))
