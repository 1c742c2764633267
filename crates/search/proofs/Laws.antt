-- What the first occurrence is.
use Rattle.std.specs.Prelude.{Option, Some, None, MatchOption}
use Rattle.std.specs.Option.{option_or}
use Rattle.std.proofs.lemmas.List.{get_or-take, get_or-drop}
use Prim.Native.Nat.{ℕ, zero, suc, ◌+◌, ◌-◌, ◌<◌, ◌≤◌}
use mathlib.Core.Path.{◌≡◌, refl, sym, ap, ◌∙◌}
use mathlib.Core.List.{List, [], ◌∷◌}
use mathlib.Core.Bool.{true, false}
use borrow.Author.Tests.{le-leb, lt-leb}
use native.Mathlib.Omega.{arith}
use lib.ListN.{length, get_or, take, drop, drop_of_length-le, length-drop}
use Rattle.base.specs.Code.Skips.{Skips}
use Rattle.base.proofs.Tests.{by_bool, by_leb, by_eqb, false_true}
use Rattle.base.proofs.Parts.{drop_cons_at}
use Rattle.base.proofs.Skips.{skips_all}
use Rattle.search.specs.First.{prefix_of, first_from, first_at}
use Rattle.search.specs.Code.Place.{First}
use Rattle.search.proofs.Prefix.{fits, too_long, byte_yes, byte_no}

nowhere : {P : Type 0} (i : ℕ) → None ≡ Some i → P
nowhere i e = absurd (let z : ◌≡◌ {A = ℕ} 0 1 = cc in omega arith)

-- what holds past n, and at a place where it holds at the next one, holds at every place
downward : (P : ℕ → Type 0) (n : ℕ) → ((at : ℕ) → n < at → P at) → ((at : ℕ) → at ≤ n → P (at + 1) → P at) → (at : ℕ) → P at
downward P n past within at = go (n + 1) at (omega arith)
  where
    go : (d at : ℕ) → n < at + d → P at
    go zero at h = past at (omega arith)
    go (suc d) at h = by_leb at n (λ g. within at g (go d (at + 1) (omega arith))) (past at)

-- counted from n
module _ (p : List ℕ) (n : ℕ) where
  pub from_hit : (s : List ℕ) → prefix_of p s ≡ true → first_from n p s ≡ Some n
  from_hit [] e = rw (e, first_from)
  from_hit (a ∷ s) e = rw (e, first_from)

  pub from_miss : (a : ℕ) (s : List ℕ) → prefix_of p (a ∷ s) ≡ false → first_from n p (a ∷ s) ≡ first_from (n + 1) p s
  from_miss a s e = rw (e, first_from)

  pub from_end : prefix_of p [] ≡ false → first_from n p [] ≡ None
  from_end e = rw (e, first_from)

module _ (p s : List ℕ) where
  pub past : (at : ℕ) → length s < at → first_at p s at ≡ None
  past at h = rw (lt-leb at (length s) h, first_at)

  pub within : (at : ℕ) → at ≤ length s → first_at p s at ≡ first_from at p (drop at s)
  within at h = rw (le-leb at (length s) h, first_at)

  -- p stands there
  pub hit : (at : ℕ) → at ≤ length s → prefix_of p (drop at s) ≡ true → first_at p s at ≡ Some at
  hit at h e = within at h ∙ from_hit p at (drop at s) e

  -- p does not stand there
  pub miss : (at : ℕ) → prefix_of p (drop at s) ≡ false → Skips (first_at p s) at (at + 1)
  miss at e =
      by_leb (at + 1) (length s)
      (λ h. let n = drop_cons_at s at (at + 1) (omega arith) refl in
      within at (omega arith) ∙ ap (first_from at p) n ∙ from_miss p at (get_or s at 0) (drop (at + 1) s) (ap (prefix_of p) (sym n) ∙ e) ∙ sym (within (at + 1) h))
      (λ h. by_leb at (length s)
      (λ g. let n : drop at s ≡ [] = drop_of_length-le s {i = at} (omega arith) in
      within at g ∙ ap (first_from at p) n ∙ from_end p at (ap (prefix_of p) (sym n) ∙ e) ∙ sym (past (at + 1) h))
      (λ g. past at g ∙ sym (past (at + 1) h)))

  -- p stands at no place before i
  pub skip : (at i : ℕ) → at ≤ i → ((k : ℕ) → at ≤ k → k < i → prefix_of p (drop k s) ≡ false) → Skips (first_at p s) at i
  skip at i h f =
      let e : at + (i - at) ≡ i = omega arith in
      rw e at (skips_all (first_at p s) (i - at) at (λ k l. miss (at + k) (f (at + k) (omega arith) (omega arith))))

  -- r is the first of the places before an end of which a test says that p stands there
  pub first_before : (at end : ℕ) → at ≤ end → end ≤ length s → {Yes No : ℕ → Type 0} (r : Option ℕ)
      → MatchOption r ((k : ℕ) → at ≤ k → k < end → No k) (λ i. (at ≤ i) × (i < end) × Yes i × ((k : ℕ) → at ≤ k → k < i → No k))
      → ((k : ℕ) → at ≤ k → k < end → Yes k → prefix_of p (drop k s) ≡ true) → ((k : ℕ) → at ≤ k → k < end → No k → prefix_of p (drop k s) ≡ false)
      → first_at p s at ≡ option_or r (first_at p s end)
  first_before at end h l None f yes' no' = skip at end h (λ k a b. no' k a b (f k a b))
  first_before at end h l (Some i) f yes' no' = skip at i f.0 (λ k a b. no' k a (omega (arith, f.1)) (f.3 k a b)) ∙ hit i (omega (arith, f.1)) (yes' i f.0 f.1 f.2)

  -- a test that says yes wherever p stands says no at each of the places
  pub skip_no : (at i : ℕ) → at ≤ i → ((k : ℕ) → at ≤ k → k < i → (prefix_of p (drop k s) ≡ true → false ≡ true)) → Skips (first_at p s) at i
  skip_no at i h f = skip at i h (λ k l g. by_bool (prefix_of p (drop k s)) (λ e. false_true (f k l g e)) (λ e. e))

  -- less is left than p has
  pub no_room : (at : ℕ) → length s < at + length p → first_at p s at ≡ None
  no_room =
      downward (λ at. length s < at + length p → first_at p s at ≡ None) (length s)
      (λ at h _. past at h)
      (λ at h more g. miss at (too_long p (drop at s) (simp length-drop (omega arith))) ∙ more (omega arith))

  -- a place that is found is the first
  pub found : (at i : ℕ) → first_at p s at ≡ Some i → First p s at i
  found at i =
      downward (λ at. first_at p s at ≡ Some i → First p s at i) (length s)
      (λ at h e. nowhere i (sym (past at h) ∙ e))
      (λ at h more e.
      by_bool (prefix_of p (drop at s))
      (λ y.
      let q : at ≡ i = cc (hit at h y) in
      let f = fits p (drop at s) y in
      record { after = omega arith; fits = omega (arith, length-drop at s); stands = rw (← q) y; before = λ j a b. absurd (omega arith) })
      (λ n.
      let f = more (sym (miss at n) ∙ e) in
      record { after = omega (arith, f.after); fits = f.fits; stands = f.stands; before = λ j a b. by_leb (at + 1) j (λ m. f.before j m b) (λ m. let q : at ≡ j = omega arith in rw (← q) n) }))
      at

  -- where nothing is found, p stands nowhere
  pub absent : (at : ℕ) → first_at p s at ≡ None → (j : ℕ) → at ≤ j → j ≤ length s → prefix_of p (drop j s) ≡ false
  absent at e j a b =
      downward (λ at. at ≤ j → first_at p s at ≡ None → prefix_of p (drop j s) ≡ false) (length s)
      (λ at h a e. absurd (omega arith))
      (λ at h more a e.
      by_bool (prefix_of p (drop at s))
      (λ y. nowhere at (sym e ∙ hit at h y))
      (λ n. by_eqb at j (λ q. rw (← q) n) (λ q. more (omega arith) (sym (miss at n) ∙ e))))
      at a e

pub or_nothing : (f : Option ℕ) → option_or f None ≡ f
or_nothing (Some i) = refl
or_nothing None = refl

pub empty : (s : List ℕ) (at : ℕ) → at ≤ length s → first_at [] s at ≡ Some at
empty s at h = hit [] s at h refl

-- the first place of a byte in the n bytes from a place on
module _ (b n : ℕ) (s : List ℕ) (at : ℕ) (h : at + n ≤ length s) where
  in_part : (k : ℕ) → k < n → get_or (take n (drop at s)) k 0 ≡ get_or s (at + k) 0
  in_part k l = get_or-take n (drop at s) k 0 l ∙ get_or-drop at s k 0

  pub passed : (i : ℕ) → i ≤ n → ((k : ℕ) → k < i → get_or (take n (drop at s)) k 0 ≡ b → ⊥) → Skips (first_at (b ∷ []) s) at (at + i)
  passed i m f =
      skip (b ∷ []) s at (at + i) (omega arith)
      (λ k l g. byte_no b s k (omega arith) (λ q.
      let z : at + (k - at) ≡ k = omega arith in
      f (k - at) (omega arith) (in_part (k - at) (omega arith) ∙ ap (λ (j : ℕ). get_or s j 0) z ∙ q)))

  pub found_at : (i : ℕ) → i < n → get_or (take n (drop at s)) i 0 ≡ b → ((k : ℕ) → k < i → get_or (take n (drop at s)) k 0 ≡ b → ⊥) → first_at (b ∷ []) s at ≡ Some (at + i)
  found_at i l y f = passed i (omega arith) f ∙ hit (b ∷ []) s (at + i) (omega arith) (byte_yes b s (at + i) (omega arith) (sym (in_part i l) ∙ y))
