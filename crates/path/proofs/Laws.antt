-- Laws of components and stems.
use Rattle.std.specs.List.{find, IsAfterLastMatch}
use Rattle.std.specs.Option.{option_or, option_map, unwrap_or}
use Rattle.std.specs.Bool.{MatchBool}
use Rattle.std.proofs.lemmas.Grind.{common_steps}
use Rattle.std.proofs.lemmas.List.Folds.{find-append}
use denote.Ref.{Bor}
use denote.Param.Members.{Mut}
use Rattle.std.specs.Fn.{CalledAt, ComputesKey}
use Rattle.std.specs.Slice.Iter.{split_rest, split_done, split_callee, rsplit_parts}
use Rattle.std.specs.declared.slice.RSplit.{RSplit}
use Rattle.std.proofs.lemmas.Fn.{always_returns_same}
use Rattle.std.proofs.lemmas.Iterator.{YieldsList}
use Rattle.std.proofs.lemmas.Iterator.Splits.{YieldsList-from_shown_while}
use lib.ListN.{length-append}
use Rattle.std.specs.Prelude.{Option, Some, None, MatchOption}
use Prim.Native.Nat.{ℕ, suc, ◌+◌, ◌-◌, ◌<◌}
use mathlib.Core.Path.{◌≡◌, refl, sym, ap, subst, ◌∙◌}
use mathlib.Core.List.{List, [], ◌∷◌, ◌++◌, append-nil, append_assoc, reverse, reverse-cons, reverse-append}
use mathlib.Core.Bool.{Bool, not, true, false, cond, or-true}
use borrow.Author.Tests.{eq-eqb, ne_eqb, eqb-true}
use native.Mathlib.Omega.{arith}
use lib.Dec.{eqb}
use lib.ListN.{length, get_or, take, drop, length-drop}
use lib.Seq.{split_at, get_or-drop}
use Rattle.base.proofs.Parts.{take-length-drop}
use Rattle.base.proofs.Tests.{by_bool, false_true, by_eqb}
use Rattle.path.specs.Stem.{parts_from, ignored, last_of, has, before_last, stem_of}
use Rattle.path.specs.Code.Scan.{Last, LastAt}

-- a byte that a text has not
module _ (b a : ℕ) (s : List ℕ) (h : has b (a ∷ s) ≡ false) where
  none_here : a ≡ b → ⊥
  none_here e = false_true (sym h ∙ rw (eq-eqb a b e) refl)

  none_behind : has b s ≡ false
  none_behind = by_eqb a b (λ e. false_true (sym h ∙ rw (eq-eqb a b e) refl)) (λ n. rw (ne_eqb a b n) at h)

none_front : (b a : ℕ) (s : List ℕ) → (a ≡ b → ⊥) → has b s ≡ false → has b (a ∷ s) ≡ false
none_front b a s n h = rw (ne_eqb a b n, h)

has_middle : (b : ℕ) (t q : List ℕ) → has b (t ++ b ∷ q) ≡ true
has_middle b [] q = rw (eq-eqb b b refl)
has_middle b (a ∷ t) q = rw (has_middle b t q) (or-true (eqb a b))

-- parts
module _ (p : List ℕ) (a : ℕ) (s : List ℕ) where
  parts_cut : a ≡ 0x2F → parts_from p (a ∷ s) ≡ p ∷ parts_from [] s
  parts_cut e = rw (eq-eqb a 0x2F e, parts_from)

  parts_other : (a ≡ 0x2F → ⊥) → parts_from p (a ∷ s) ≡ parts_from (p ++ a ∷ []) s
  parts_other n = rw (ne_eqb a 0x2F n, parts_from)

parts_one : (p q : List ℕ) → has 0x2F q ≡ false → parts_from p q ≡ (p ++ q) ∷ []
parts_one p [] h = rw append-nil
parts_one p (a ∷ q) h =
    parts_other p a q (none_here 0x2F a q h)
    ∙ parts_one (p ++ a ∷ []) q (none_behind 0x2F a q h)
    ∙ ap (λ (t : List ℕ). t ∷ []) (append_assoc p (a ∷ []) q)

parts_slash : (p t q : List ℕ) → parts_from p (t ++ 0x2F ∷ q) ≡ parts_from p t ++ parts_from [] q
parts_slash p [] q = parts_cut p 0x2F q refl
parts_slash p (a ∷ t) q =
    by_eqb a 0x2F
    (λ e. parts_cut p a (t ++ 0x2F ∷ q) e ∙ ap (λ (ps : List (List ℕ)). p ∷ ps) (parts_slash [] t q) ∙ ap (λ (ps : List (List ℕ)). ps ++ parts_from [] q) (sym (parts_cut p a t e)))
    (λ n. parts_other p a (t ++ 0x2F ∷ q) n ∙ parts_slash (p ++ a ∷ []) t q ∙ ap (λ (ps : List (List ℕ)). ps ++ parts_from [] q) (sym (parts_other p a t n)))

split_last : (b : ℕ) (s : List ℕ) (i : ℕ) → Last b s i → s ≡ take i s ++ b ∷ drop (i + 1) s
split_last b s i l =
    let e : suc i ≡ i + 1 = omega arith in
    split_at s i 0 l.inside ∙ ap (λ (j : ℕ). take i s ++ get_or s i 0 ∷ drop j s) e ∙ ap (λ (a : ℕ). take i s ++ a ∷ drop (i + 1) s) l.here

-- what stands before the last of a byte
before_none : (b : ℕ) (s : List ℕ) → has b s ≡ false → before_last b s ≡ s
before_none b [] h = refl
before_none b (a ∷ s) h = rw (none_behind b a s h, before_last) (rw (ne_eqb a b (none_here b a s h), before_last))

before_last_lem : (b : ℕ) (t q : List ℕ) → has b q ≡ false → before_last b (t ++ b ∷ q) ≡ t
before_last_lem b [] q h = rw (h, before_last) (rw (eq-eqb b b refl, before_last))
before_last_lem b (a ∷ t) q h = rw (has_middle b t q, before_last) (ap (λ (u : List ℕ). a ∷ u) (before_last_lem b t q h))

-- what stands behind a name's first byte, as `&name[1..]` gives it
abbrev pub tail : List ℕ → List ℕ
tail s = take (length s - 1) (drop 1 s)

pub tail_length : (s : List ℕ) → length (tail s) ≡ length s - 1
tail_length s = ap length (take-length-drop s 1) ∙ length-drop 1 s

tail_cons : (a : ℕ) (s : List ℕ) → tail (a ∷ s) ≡ s
tail_cons a s = take-length-drop (a ∷ s) 1

pub stem_whole : (s : List ℕ) → has 0x2E (tail s) ≡ false → stem_of s ≡ s
stem_whole [] h = refl
stem_whole (a ∷ s) h = ap (λ (u : List ℕ). a ∷ u) (before_none 0x2E s (sym (ap (has 0x2E) (tail_cons a s)) ∙ h))

pub stem_cut : (s : List ℕ) (i : ℕ) → Last 0x2E (tail s) i → stem_of s ≡ take (i + 1) s
stem_cut [] i l = let m = l.inside in absurd (omega (arith, tail_length []))
stem_cut (a ∷ s) i l =
    let e : suc i ≡ i + 1 = omega arith in
    let k : Last 0x2E s i = subst (λ (u : List ℕ). Last 0x2E u i) (tail_cons a s) l in
    ap (λ (u : List ℕ). a ∷ before_last 0x2E u) (split_last 0x2E s i k)
    ∙ ap (λ (u : List ℕ). a ∷ u) (before_last_lem 0x2E (take i s) (drop (i + 1) s) k.behind)
    ∙ ap (λ (j : ℕ). take j (a ∷ s)) e

-- a list without a byte
has_none : (b : ℕ) (s : List ℕ) → ((k : ℕ) → k < length s → get_or s k 0 ≡ b → ⊥) → has b s ≡ false
has_none b [] f = refl
has_none b (a ∷ s) f = none_front b a s (f 0 (omega arith)) (has_none b s (λ k h. f (suc k) (omega arith)))

-- the last place of a byte
pub last_found : (b : ℕ) (s : List ℕ) (r : Option ℕ)
    → MatchOption r ((k : ℕ) → k < length s → get_or s k 0 ≡ b → ⊥) (λ i. (i < length s) × (get_or s i 0 ≡ b) × ((k : ℕ) → i < k → k < length s → get_or s k 0 ≡ b → ⊥))
    → LastAt b s r
last_found b s None f = has_none b s f
last_found b s (Some i) f =
    record {
      inside = f.0;
      here = f.1;
      behind = has_none b (drop (i + 1) s) (λ k h e. f.2 (i + 1 + k) (omega arith) (omega (arith, length-drop (i + 1) s)) (sym (get_or-drop (i + 1) s k 0) ∙ e));
    }

-- the last part that is not ignored, by a search from the end
choose : (p c : List ℕ) (r : Option (List ℕ)) → unwrap_or r (cond (ignored p) c p) ≡ unwrap_or (option_or r (cond (not (ignored p)) (Some p) None)) c
choose p c (Some x) = refl
choose p c None = by_bool (ignored p) (λ e. rw e refl) (λ e. rw e refl)

pub last_of_back : (c : List ℕ) (ps : List (List ℕ)) → last_of c ps ≡ unwrap_or (find (λ p. not (ignored p)) (reverse ps)) c
last_of_back c [] = refl
last_of_back c (p ∷ ps) =
    last_of_back (cond (ignored p) c p) ps
    ∙ choose p c (find (λ q. not (ignored q)) (reverse ps))
    ∙ ap (λ (r : Option (List ℕ)). unwrap_or r c) (sym (ap (find (λ q. not (ignored q))) (reverse-cons p ps) ∙ find-append (λ q. not (ignored q)) (reverse ps) (p ∷ [])))

pub back_part : (xs x rest : List ℕ) (done : Bool) → MatchBool done (xs ≡ x) ((y : ℕ) × (xs ≡ rest ++ (y ∷ x))) → IsAfterLastMatch (λ a. eqb a 0x2F) xs (length xs - length x)
    → reverse (parts_from [] xs) ≡ x ∷ cond done [] (reverse (parts_from [] rest))
back_part xs x rest true e h =
    ap (λ (s : List ℕ). reverse (parts_from [] s)) e
    ∙ ap reverse (parts_one [] x (has_none 0x2F x (λ k l q. false_true (sym (h.0 k 0 (omega (arith, ap length e)) (omega (arith, ap length e))) ∙ ap (λ (s : List ℕ). eqb (get_or s k 0) 0x2F) e ∙ eq-eqb _ _ q))))
back_part xs x rest false e h =
    let hit : eqb e.0 0x2F ≡ true = let b = e.1 in let a = h.1 (grind (arith, common_steps)) e.0 in grind (arith, common_steps) in
    let n : length rest + suc (length x) ≡ length xs = sym (ap length e.1 ∙ length-append rest (e.0 ∷ x)) in
    let none : has 0x2F x ≡ false = has_none 0x2F x (λ k l q. let a = h.0 (length rest + 1 + k) 0 (omega arith) (omega arith) in let b = e.1 in let f : get_or xs (length rest + 1 + k) 0 ≡ get_or x k 0 = grind (arith, common_steps) in false_true (sym a ∙ eq-eqb _ _ (f ∙ q))) in
    ap (λ (s : List ℕ). reverse (parts_from [] s)) (e.1 ∙ ap (λ (a : ℕ). rest ++ a ∷ x) (eqb-true _ _ hit))
    ∙ ap reverse (parts_slash [] rest x ∙ ap (λ (ps : List (List ℕ)). parts_from [] rest ++ ps) (parts_one [] x none))
    ∙ reverse-append (parts_from [] rest) (x ∷ [])

pub shown_found : (r : Option (Bor (List ℕ))) (d : Bor (List ℕ)) → d.now ≡ [] → (unwrap_or r d).now ≡ unwrap_or (option_map (λ x. x.now) r) []
shown_found None d e = e
shown_found (Some x) d e = refl

-- the steps of `rsplit`, and what they yield
abbrev rsplit_steps : {F : Type 0} → Mut F (Bor ℕ × Unit {0}) Bool → RSplit ℕ F → Option (Bor (List ℕ)) → RSplit ℕ F → Type 0
rsplit_steps {F} g s r t =
    MatchOption r ((split_done (rsplit_parts s) ≡ true) × (rsplit_parts t ≡ rsplit_parts s))
    (λ x. (split_done (rsplit_parts s) ≡ false) × MatchBool (split_done (rsplit_parts t)) (split_rest (rsplit_parts s) ≡ x.now) ((y : ℕ) × (split_rest (rsplit_parts s) ≡ split_rest (rsplit_parts t) ++ (y ∷ x.now)))
    × ((p : ℕ → Bool) → ComputesKey g p (split_callee (rsplit_parts s)) → ComputesKey g p (split_callee (rsplit_parts t)) × IsAfterLastMatch p (split_rest (rsplit_parts s)) (length (split_rest (rsplit_parts s)) - length x.now)))

pub parts_yielded : {F : Type 0} {s : RSplit ℕ F} (g : Mut F (Bor ℕ × Unit {0}) Bool) {f : F} (xs : List ℕ) → split_rest (rsplit_parts s) ≡ xs → split_done (rsplit_parts s) ≡ false → split_callee (rsplit_parts s) ≡ f
    → ((x : ℕ) (b : Bool) (q : F) → CalledAt g f x b q → (q ≡ f) × (b ≡ eqb x 0x2F)) → YieldsList (rsplit_steps g) (λ x. x.now) s (reverse (parts_from [] xs))
parts_yielded {F} {s} g {f} xs rest done closure tests =
    let parts = λ (t : RSplit ℕ F). reverse (parts_from [] (split_rest (rsplit_parts t))) in
    let shown = λ (t : RSplit ℕ F). cond (split_done (rsplit_parts t)) [] (parts t) in
    subst (YieldsList (rsplit_steps g) (λ x. x.now) s) (ap (λ (b : Bool). cond b [] (parts s)) done ∙ ap (λ (u : List ℕ). reverse (parts_from [] u)) rest)
    (YieldsList-from_shown_while (rsplit_steps g) (λ x. x.now) shown (λ t. ComputesKey g (λ a. eqb a 0x2F) (split_callee (rsplit_parts t)))
    (λ t u h k. ap (λ (b : Bool). length (cond b [] (parts t))) k.0)
    (λ t x u h k. let m = k.2 (λ a. eqb a 0x2F) h in (m.0, ap (λ (b : Bool). cond b [] (parts t)) k.0 ∙ back_part _ x.now _ (split_done (rsplit_parts u)) k.1 m.1))
    s (subst (ComputesKey g (λ a. eqb a 0x2F)) (sym closure) (always_returns_same g (λ a r. r ≡ eqb a.0.now 0x2F) f (λ a r q k. let m = tests a.0.now r q (record { shown = a.0; shows = refl; called = k }) in (m.1, m.0)))))
