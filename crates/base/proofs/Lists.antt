-- Laws of `all` and `takeWhile`.
use Prim.Native.Nat.{ℕ, zero, suc, ◌+◌, ◌<◌, ◌≤◌}
use mathlib.Core.Path.{◌≡◌, refl, sym, ap, ◌∙◌}
use mathlib.Core.List.{List, [], ◌∷◌, ◌++◌, append-nil}
use mathlib.Core.Bool.{Bool, true, false, not, ◌&&◌, ◌||◌, and_assoc, and-true}
use native.Mathlib.Omega.{arith}
use lib.ListN.{length, get_or, take, drop, take-append-drop, drop_of_length-le, get_or-eq_default}
use lib.Dec.{eqb}
use Rattle.std.specs.List.{fold, list_any, prefix_len}
use Rattle.base.specs.Code.Without.{without}
use Rattle.base.specs.Lists.{all, take_while}
use Rattle.base.proofs.Tests.{false_true, by_bool, by_leb, and_left, and_right, and_both}
use Rattle.base.proofs.Parts.{drop_cons_at}

-- tests that say the same, and one that says more
pub take_while_same : (p q : ℕ → Bool) → ((a : ℕ) → p a ≡ q a) → (s : List ℕ) → take_while p s ≡ take_while q s
take_while_same p q h [] = refl
take_while_same p q h (a ∷ s) = let more = take_while_same p q h s in rw (h a, more)

module _ (p q : ℕ → Bool) (h : (a : ℕ) → p a ≡ true → q a ≡ true) where
  pub all_weaker : (s : List ℕ) → all p s ≡ true → all q s ≡ true
  all_weaker [] e = refl
  all_weaker (a ∷ s) e = and_both (q a) (all q s) (h a (and_left (p a) (all p s) e)) (all_weaker s (and_right (p a) (all p s) e))

module _ (test : ℕ → Bool) where
  -- two lists, one behind the other
  pub all_append : (s t : List ℕ) → all test (s ++ t) ≡ (all test s && all test t)
  all_append [] t = refl
  all_append (a ∷ s) t = ap (λ (b : Bool). test a && b) (all_append s t) ∙ sym (and_assoc (test a) (all test s) (all test t))

  pub all_behind : (s t : List ℕ) → all test s ≡ true → all test (s ++ t) ≡ all test t
  all_behind s t e = all_append s t ∙ ap (λ (b : Bool). b && all test t) e

  pub take_while-append : (s t : List ℕ) → all test s ≡ true → take_while test (s ++ t) ≡ s ++ take_while test t
  take_while-append [] t e = refl
  take_while-append (a ∷ s) t e =
      simp (and_left (test a) (all test s) e) (ap (λ (r : List ℕ). a ∷ r) (take_while-append s t (and_right (test a) (all test s) e)))

  -- where all pass
  pub all_at : (s : List ℕ) (i : ℕ) → all test s ≡ true → i < length s → test (get_or s i 0) ≡ true
  all_at [] i e h = absurd (omega arith)
  all_at (a ∷ s) zero e h = and_left (test a) (all test s) e
  all_at (a ∷ s) (suc i) e h = all_at s i (and_right (test a) (all test s) e) (omega arith)

  pub take_while_all : (s : List ℕ) → all test s ≡ true → take_while test s ≡ s
  take_while_all s e = ap (take_while test) (sym (append-nil s)) ∙ take_while-append s [] e ∙ append-nil s

  pub all_take_while : (s : List ℕ) → all test (take_while test s) ≡ true
  all_take_while [] = refl
  all_take_while (a ∷ s) = let more = all_take_while s in by_bool (test a) (λ e. simp e more) (λ e. simp e)

  -- they are the whole list where they are as many
  pub all_length : (s : List ℕ) → length s ≤ length (take_while test s) → all test s ≡ true
  all_length [] h = refl
  all_length (a ∷ s) h =
      by_bool (test a)
      (λ e. simp e (all_length s (let k = simp e at h in omega arith)))
      (λ e. absurd (let k = simp e at h in omega arith))

  pub length-take_while : (s : List ℕ) → length (take_while test s) ≤ length s
  length-take_while [] = omega arith
  length-take_while (a ∷ s) = let h = length-take_while s in by_bool (test a) (λ e. simp e (omega arith)) (λ e. simp e (omega arith))

  pub take-take_while : (s : List ℕ) → take (length (take_while test s)) s ≡ take_while test s
  take-take_while [] = refl
  take-take_while (a ∷ s) =
      let h = take-take_while s in
      by_bool (test a) (λ e. simp e (ap (λ (w : List ℕ). a ∷ w) h)) (λ e. simp e)

  pub take_while-drop : (s : List ℕ) → s ≡ take_while test s ++ drop (length (take_while test s)) s
  take_while-drop s =
      let n = length (take_while test s) in
      sym (take-append-drop n s) ∙ ap (λ (t : List ℕ). t ++ drop n s) (take-take_while s)

  -- the last of them passes, and what follows them doesn't
  pub take_while_last : (s : List ℕ) (n : ℕ) → length (take_while test s) ≡ suc n → test (get_or s n 0) ≡ true
  take_while_last [] n h = absurd (omega arith)
  take_while_last (a ∷ s) zero h = by_bool (test a) (λ e. e) (λ e. absurd (omega (arith, simp e at h)))
  take_while_last (a ∷ s) (suc n) h =
      let more = take_while_last s n in
      by_bool (test a) (λ e. more (omega (arith, simp e at h))) (λ e. absurd (omega (arith, simp e at h)))

  pub take_while_stops : test 0 ≡ false → (s : List ℕ) → test (get_or s (length (take_while test s)) 0) ≡ false
  take_while_stops past [] = past
  take_while_stops past (a ∷ s) = let h = take_while_stops past s in by_bool (test a) (λ e. simp e h) (λ e. simp e)

-- from a place on, one element more or none
module _ (test : ℕ → Bool) (s : List ℕ) (i : ℕ) where
  pub all_more : i < length s → all test (drop i s) ≡ (test (get_or s i 0) && all test (drop (i + 1) s))
  all_more h = ap (all test) (drop_cons_at s i (i + 1) h refl)

  pub take_while_more : i < length s → test (get_or s i 0) ≡ true → take_while test (drop i s) ≡ get_or s i 0 ∷ take_while test (drop (i + 1) s)
  take_while_more h e = rw (drop_cons_at s i (i + 1) h refl) (simp e)

  pub take_while_none : test (get_or s i 0) ≡ false → take_while test (drop i s) ≡ []
  take_while_none e =
      by_leb (length s) i
      (λ h. ap (take_while test) (drop_of_length-le s h))
      (λ h. rw (drop_cons_at s i (i + 1) h refl) (simp e))

-- where the elements that pass end, from a place on; past the list's end a place reads 0
abbrev pub end_from : (ℕ → Bool) → List ℕ → ℕ → ℕ
end_from test s i = i + length (take_while test (drop i s))

module _ (test : ℕ → Bool) (past : test 0 ≡ false) (s : List ℕ) (i : ℕ) where
  pub passes_inside : test (get_or s i 0) ≡ true → i < length s
  passes_inside e = by_leb (length s) i (λ h. false_true (sym (ap test (get_or-eq_default s 0 h) ∙ past) ∙ e)) (λ h. h)

  pub end_more : test (get_or s i 0) ≡ true → end_from test s i ≡ end_from test s (i + 1)
  end_more e = omega (arith, ap length (take_while_more test s i (passes_inside e) e))

pub end_none : (test : ℕ → Bool) (s : List ℕ) (i : ℕ) → test (get_or s i 0) ≡ false → end_from test s i ≡ i
end_none test s i e = omega (arith, ap length (take_while_none test s i e))

-- a fold by a test that is joined with those before it, in code with no branch
pub fold_all : (test : ℕ → Bool) (b : Bool) (s : List ℕ) → fold (λ p a. p && test a) b s ≡ (b && all test s)
fold_all test b [] = sym (and-true b)
fold_all test b (a ∷ s) = fold_all test (b && test a) s ∙ and_assoc b (test a) (all test s)

-- how many stand before the first that fails
pub prefix_len_is : (test : ℕ → Bool) (s : List ℕ) → prefix_len test s ≡ length (take_while test s)
prefix_len_is test [] = refl
prefix_len_is test (a ∷ s) = let h = prefix_len_is test s in by_bool (test a) (λ e. simp e (omega arith)) (λ e. simp e refl)

-- a fold that tests each element against one byte
pub fold_without : (b : ℕ) (free : Bool) (s : List ℕ) → fold (λ p a. p && not (eqb a b)) free s ≡ (free && without b s)
fold_without b free [] = sym (and-true free)
fold_without b free (a ∷ s) = fold_without b (free && not (eqb a b)) s ∙ joined free (eqb a b) (list_any (λ x. eqb x b) s)
  where
    joined : (p q r : Bool) → ((p && not q) && not r) ≡ (p && not (q || r))
    joined true true r = refl
    joined true false r = refl
    joined false q r = refl

pub none_there : (b : ℕ) (s : List ℕ) → without b s ≡ true → list_any (λ a. eqb a b) s ≡ false
none_there b s h = by_bool (list_any (λ a. eqb a b) s) (λ e. absurd (false_true (sym (ap not e) ∙ h))) (λ e. e)
