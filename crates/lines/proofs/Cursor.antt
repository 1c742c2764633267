-- Laws of the cursor: where a line ends, and that the lines are visited in order.
use Rattle.std.specs.Prelude.{Option, Some, None, unwrap_or}
use Prim.Native.Nat.{ℕ, zero, suc, ◌+◌, ◌-◌, ◌<◌, ◌≤◌}
use mathlib.Core.Path.{◌≡◌, refl, sym, ap, ◌∙◌}
use mathlib.Core.List.{List, [], ◌∷◌, ◌++◌}
use mathlib.Core.Bool.{Bool, true, false, cond, ◌&&◌, and-false}
use borrow.Author.Tests.{eq-eqb, ne_eqb, lt-ltb, le-ltb}
use native.Mathlib.Omega.{arith}
use lib.Dec.{eqb, ltb}
use lib.ListN.{length, get_or, take, drop, length-drop, drop_of_length-le}
use lib.Seq.{drop-drop, get_or-drop}
use Rattle.base.specs.Code.Cursor.{visited, IsVisit}
use Rattle.base.proofs.Cursor as cursor
use Rattle.base.proofs.Tests.{choice, by_eqb, by_leb}
use Rattle.search.specs.First.{first_from}
use Rattle.search.proofs.Prefix.{other}
use Rattle.search.proofs.Laws.{from_miss, within}
use Rattle.lines.specs.Lines.{front, feed_next, lines, feed_free}
use Rattle.lines.specs.Cursor.{span, first_line, line_from, line_at}
use Rattle.lines.specs.Code.Visits.{feed_from, head_of, visit_of_line, visit_line, IsLine}
use Rattle.lines.specs.declared.Line.{Line}
use Rattle.lines.proofs.Laws.{lines_other, no_return, no_feed, by_start}
use Rattle.lines.proofs.Written.{free_cons}

-- how many bytes stand before the first line feed: all of them where there is none
abbrev feed_at : List ℕ → ℕ
feed_at [] = 0
feed_at (a ∷ s) = elim (eqb a 10) [ true ↦ 0 | false ↦ suc (feed_at s) ]

module _ (a : ℕ) (s : List ℕ) (h : a ≡ 10 → ⊥) where
  feed_other : feed_at (a ∷ s) ≡ suc (feed_at s)
  feed_other = choice (eqb a 10) 0 (suc (feed_at s)) ∙ ap (λ (b : Bool). cond b 0 (suc (feed_at s))) (ne_eqb a 10 h)

  span_other : span (a ∷ s) ≡ suc (span s)
  span_other = choice (eqb a 10) 1 (suc (span s)) ∙ ap (λ (b : Bool). cond b 1 (suc (span s))) (ne_eqb a 10 h)

  first_other : (eqb a 13 && feed_next s) ≡ false → first_line (a ∷ s) ≡ a ∷ first_line s
  first_other e = ap head_of (lines_other a s h e) ∙ go (lines s)
    where
      go : (ls : List (List ℕ)) → head_of (front a ls) ≡ a ∷ head_of ls
      go [] = refl
      go (l ∷ ls) = refl

-- the first line, and the lines after it
record Split (s : List ℕ) : Type 0 where
  line : List ℕ
  starts : line ≡ take (length line) s
  within : length line ≤ span s
  is : lines s ≡ line ∷ lines (drop (span s) s)

split : (s : List ℕ) → 0 < length s → Split s
split [] h = absurd (omega arith)
split (a ∷ []) h =
    by_start a [] (λ e. rw e (record { line = []; starts = refl; within = omega arith; is = refl })) (λ t e n. absurd (empty t n))
    (λ g e. record { line = a ∷ []; starts = refl; within = let z = span_other a [] g in omega arith; is = lines_other a [] g e ∙ ap (λ (n : ℕ). (a ∷ []) ∷ lines (drop n (a ∷ []))) (sym (span_other a [] g)) })
  where
    empty : (t : List ℕ) → [] ≡ 10 ∷ t → ⊥
    empty t e = let z : ◌≡◌ {A = ℕ} 0 (suc (length t)) = ap length e in omega arith
split (a ∷ b ∷ s) h =
    by_start a (b ∷ s) (λ e. rw e (record { line = []; starts = refl; within = omega arith; is = refl })) (λ t e n. rw (e, n) (record { line = []; starts = refl; within = omega arith; is = refl }))
    (λ g e. longer (split (b ∷ s) (omega arith)) g e)
  where
    longer : Split (b ∷ s) → (a ≡ 10 → ⊥) → (eqb a 13 && feed_next (b ∷ s)) ≡ false → Split (a ∷ b ∷ s)
    longer r g e =
        record {
          line = a ∷ r.line;
          starts = ap (λ (l : List ℕ). a ∷ l) r.starts;
          within = let y = r.within in let z = span_other a (b ∷ s) g in omega arith;
          is = lines_other a (b ∷ s) g e
              ∙ ap (front a) r.is
              ∙ ap (λ (n : ℕ). (a ∷ r.line) ∷ lines (drop n (a ∷ b ∷ s))) (sym (span_other a (b ∷ s) g));
        }

span_le : (s : List ℕ) → span s ≤ length s
span_le [] = omega arith
span_le (a ∷ s) = by_eqb a 10 (λ e. rw e (omega arith)) (λ h. let z = span_other a s h in let y = span_le s in omega arith)

span_pos : (s : List ℕ) → 0 < length s → 0 < span s
span_pos [] h = absurd (omega arith)
span_pos (a ∷ s) h = by_eqb a 10 (λ e. rw e (omega arith)) (λ h. let z = span_other a s h in omega arith)

-- where the first line feed stands
pub feed_le : (s : List ℕ) → feed_at s ≤ length s
feed_le [] = omega arith
feed_le (a ∷ s) = by_eqb a 10 (λ e. rw e (omega arith)) (λ h. let z = feed_other a s h in let y = feed_le s in omega arith)

pub feed_some : (s : List ℕ) → feed_at s < length s → span s ≡ feed_at s + 1
feed_some [] h = absurd (omega arith)
feed_some (a ∷ s) h =
    by_eqb a 10 (λ e. rw e refl)
    (λ g. let y = feed_other a s g in let z = span_other a s g in let w = feed_some s (omega arith) in omega arith)

no_feed_next : (a : ℕ) (s : List ℕ) → feed_at s ≡ length s → (eqb a 13 && feed_next s) ≡ false
no_feed_next a [] h = and-false (eqb a 13)
no_feed_next a (b ∷ s) h = no_feed a b s (λ e. let z : feed_at (b ∷ s) ≡ 0 = rw e refl in omega arith)

-- a text with no line feed is one line
pub feed_none : (s : List ℕ) → feed_at s ≡ length s → (span s ≡ length s) × (first_line s ≡ s)
feed_none [] h = (refl, refl)
feed_none (a ∷ s) h =
    by_eqb a 10 (λ e. absurd (let z : feed_at (a ∷ s) ≡ 0 = rw e refl in omega arith))
    (λ g. let y : feed_at s ≡ length s = let z = feed_other a s g in omega arith in
    let r = feed_none s y in
    (span_other a s g ∙ ap suc r.0, first_other a s g (no_feed_next a s y) ∙ ap (λ (l : List ℕ). a ∷ l) r.1))

-- the line that a line feed ends, with nothing before it, or with a carriage return before it or not
pub ends_zero : (s : List ℕ) → feed_at s ≡ 0 → 0 < length s → length (first_line s) ≡ 0
ends_zero [] h k = refl
ends_zero (a ∷ s) h k = by_eqb a 10 (λ e. rw e refl) (λ g. absurd (let z = feed_other a s g in omega arith))

-- the length of a first line that a line feed ends after k + 1 bytes, by the last of these
abbrev Ends : List ℕ → ℕ → Type 0
Ends s k = length (first_line s) ≡ cond (eqb (get_or s k 0) 13) k (suc k)

module _ (a b : ℕ) (s : List ℕ) (g : a ≡ 10 → ⊥) where
  ends_feed : b ≡ 10 → Ends (a ∷ b ∷ s) 0
  ends_feed e =
      rw e
      (by_eqb a 13 (λ q. rw q refl)
      (λ q. ap length (first_other a (10 ∷ s) g (no_return a (10 ∷ s) q)) ∙ ap (λ (p : Bool). cond p 0 1) (sym (ne_eqb a 13 q))))

  ends_other : (b ≡ 10 → ⊥) → (k : ℕ) → Ends (b ∷ s) k → Ends (a ∷ b ∷ s) (suc k)
  ends_other e k h = ap length (first_other a (b ∷ s) g (no_feed a b s e)) ∙ ap suc h ∙ one_more (eqb (get_or (b ∷ s) k 0) 13)
    where
      one_more : (p : Bool) → suc (cond p k (suc k)) ≡ cond p (suc k) (suc (suc k))
      one_more true = refl
      one_more false = refl

pub ends : (s : List ℕ) (k : ℕ) → feed_at s ≡ suc k → suc k < length s → Ends s k
ends [] k h n = absurd (omega arith)
ends (a ∷ []) k h n = absurd (omega arith)
ends (a ∷ b ∷ s) zero h n =
    by_eqb a 10 (λ e. absurd (let z : feed_at (a ∷ b ∷ s) ≡ 0 = rw e refl in omega arith))
    (λ g. by_eqb b 10 (ends_feed a b s g) (λ e. absurd (let y = feed_other a (b ∷ s) g in let z = feed_other b s e in omega arith)))
ends (a ∷ b ∷ s) (suc k) h n =
    by_eqb a 10 (λ e. absurd (let z : feed_at (a ∷ b ∷ s) ≡ 0 = rw e refl in omega arith))
    (λ g. let y = feed_other a (b ∷ s) g in
    by_eqb b 10 (λ e. absurd (let z : feed_at (b ∷ s) ≡ 0 = rw e refl in omega arith))
    (λ e. ends_other a b s g e k (ends (b ∷ s) k (omega arith) (omega arith))))

-- the first line feed, as it is searched for
search_other : (n a : ℕ) (s : List ℕ) → (a ≡ 10 → ⊥) → first_from n (10 ∷ []) (a ∷ s) ≡ first_from (n + 1) (10 ∷ []) s
search_other n a s h = from_miss (10 ∷ []) n a s (other 10 a [] s (λ e. h (sym e)))

search_hit : (n : ℕ) (s : List ℕ) → feed_at s < length s → first_from n (10 ∷ []) s ≡ Some (n + feed_at s)
search_hit n [] h = absurd (omega arith)
search_hit n (a ∷ s) h =
    by_eqb a 10 (λ e. rw e (let z : n ≡ n + 0 = omega arith in ap Some z))
    (λ g. let y = feed_other a s g in
    let z : n + 1 + feed_at s ≡ n + feed_at (a ∷ s) = omega arith in
    search_other n a s g ∙ search_hit (n + 1) s (omega arith) ∙ ap Some z)

search_miss : (n : ℕ) (s : List ℕ) → feed_at s ≡ length s → first_from n (10 ∷ []) s ≡ None
search_miss n [] h = refl
search_miss n (a ∷ s) h =
    by_eqb a 10 (λ e. absurd (let z : feed_at (a ∷ s) ≡ 0 = rw e refl in omega arith))
    (λ g. let y = feed_other a s g in search_other n a s g ∙ search_miss (n + 1) s (omega arith))

pub feed_from_lem : (s : List ℕ) (at : ℕ) → at ≤ length s → feed_from s at ≡ at + feed_at (drop at s)
feed_from_lem s at h =
    let n = length-drop at s in
    let m = feed_le (drop at s) in
    by_leb (suc (feed_at (drop at s))) (length (drop at s))
    (λ g. ap (λ (r : Option ℕ). unwrap_or r (length s)) (within (10 ∷ []) s at h ∙ search_hit at (drop at s) g))
    (λ g. ap (λ (r : Option ℕ). unwrap_or r (length s)) (within (10 ∷ []) s at h ∙ search_miss at (drop at s) (omega arith)) ∙ omega arith)

pub feed_bounds : (s : List ℕ) (at : ℕ) → at ≤ length s → (at ≤ feed_from s at) × (feed_from s at ≤ length s)
feed_bounds s at h =
    let n = length-drop at s in
    let e = feed_from_lem s at h in
    let f = feed_le (drop at s) in (omega arith, omega arith)

-- what stands from a place to the first line feed
pub record Fed (s : List ℕ) (at : ℕ) : Type 0 where
  pub before : List ℕ
  pub free : feed_free before ≡ true
  pub stands : drop at s ≡ before ++ 10 ∷ drop (feed_from s at + 1) s
  pub place : feed_from s at ≡ at + length before

fed_from : (u : List ℕ) → feed_at u < length u → (x : List ℕ) × (feed_free x ≡ true) × (u ≡ x ++ 10 ∷ drop (feed_at u + 1) u) × (feed_at u ≡ length x)
fed_from [] h = absurd (omega arith)
fed_from (a ∷ s) h =
    by_eqb a 10 (λ e. rw e ([], refl, refl, refl))
    (λ g. let y = feed_other a s g in
    let r = fed_from s (omega arith) in
    let z : feed_at (a ∷ s) + 1 ≡ suc (feed_at s + 1) = omega arith in
    (a ∷ r.0, free_cons a r.0 g ∙ r.1, ap (λ (t : List ℕ). a ∷ t) (r.2 ∙ ap (λ (i : ℕ). r.0 ++ 10 ∷ drop i (a ∷ s)) (sym z)), y ∙ ap suc r.3))

pub fed : (s : List ℕ) (at : ℕ) → at ≤ length s → feed_from s at < length s → Fed s at
fed s at h k =
    let n = length-drop at s in
    let e = feed_from_lem s at h in
    let r = fed_from (drop at s) (omega arith) in
    let z : at + (feed_at (drop at s) + 1) ≡ feed_from s at + 1 = omega arith in
    record {
      before = r.0;
      free = r.1;
      stands = r.2 ∙ ap (λ (t : List ℕ). r.0 ++ 10 ∷ t) (drop-drop (feed_at (drop at s) + 1) at s ∙ ap (λ (i : ℕ). drop i s) z);
      place = e ∙ ap (λ (m : ℕ). at + m) r.3;
    }

-- the line at a place by its line feed: none, with nothing before it, with a carriage return before it, with another byte
module _ (s : List ℕ) (at : ℕ) (h : at < length s) where
  pub unended : feed_from s at ≡ length s → (length s ≡ at + length (first_line (drop at s))) × (length s ≡ at + span (drop at s))
  unended e =
      let n = length-drop at s in
      let f = feed_from_lem s at (omega arith) in
      let r = feed_none (drop at s) (omega arith) in
      let y = ap length r.1 in
      let z = r.0 in (omega arith, omega arith)

  module _ (f : feed_from s at < length s) where
    pub ended : feed_from s at + 1 ≡ at + span (drop at s)
    ended = let n = length-drop at s in let e = feed_from_lem s at (omega arith) in let z = feed_some (drop at s) (omega arith) in omega arith

    pub bare : feed_from s at ≡ at → at ≡ at + length (first_line (drop at s))
    bare e = let n = length-drop at s in let g = feed_from_lem s at (omega arith) in let z = ends_zero (drop at s) (omega arith) (omega arith) in omega arith

    module _ (k : ℕ) (e : feed_from s at ≡ at + suc k) where
      last : length (first_line (drop at s)) ≡ cond (eqb (get_or s (at + k) 0) 13) k (suc k)
      last =
          let n = length-drop at s in
          let g = feed_from_lem s at (omega arith) in
          ends (drop at s) k (omega arith) (omega arith) ∙ ap (λ (b : ℕ). cond (eqb b 13) k (suc k)) (get_or-drop at s k 0)

      pub returned : get_or s (at + k) 0 ≡ 13 → length (first_line (drop at s)) ≡ k
      returned q = last ∙ ap (λ (p : Bool). cond p k (suc k)) (eq-eqb _ _ q)

      pub plain : (get_or s (at + k) 0 ≡ 13 → ⊥) → length (first_line (drop at s)) ≡ suc k
      plain q = last ∙ ap (λ (p : Bool). cond p k (suc k)) (ne_eqb _ _ q)

-- the line at a place
module _ (s : List ℕ) (at : ℕ) where
  pub line_here : at < length s → line_at s at ≡ Some (line_from s at)
  line_here h = choice (ltb at (length s)) (Some (line_from s at)) None ∙ ap (λ (b : Bool). cond b (Some (line_from s at)) None) (lt-ltb at (length s) h)

  pub line_done : length s ≤ at → line_at s at ≡ None
  line_done h = choice (ltb at (length s)) (Some (line_from s at)) None ∙ ap (λ (b : Bool). cond b (Some (line_from s at)) None) (le-ltb at (length s) h)

  here_is : at < length s → IsLine s at (line_from s at)
  here_is h =
      let n : length (drop at s) ≡ length s - at = length-drop at s in
      let r = split (drop at s) (omega arith) in
      let f : first_line (drop at s) ≡ r.line = ap head_of r.is in
      let z : at + length (first_line (drop at s)) - at ≡ length r.line = let y = ap length f in omega arith in
      let p = span_pos (drop at s) (omega arith) in
      let q = span_le (drop at s) in
      record {
        starts = refl;
        ends = omega arith;
        on = omega arith;
        before = let w = r.within in let y = ap length f in omega arith;
        fits = omega arith;
        is = r.is
            ∙ ap (λ (l : List ℕ). l ∷ lines (drop (span (drop at s)) (drop at s))) (r.starts ∙ ap (λ (m : ℕ). take m (drop at s)) (sym z))
            ∙ ap (λ (l : List ℕ). take (at + length (first_line (drop at s)) - at) (drop at s) ∷ lines l) (drop-drop (span (drop at s)) at s);
      }

  pub step_line : (l : Line) → line_at s at ≡ Some l → IsLine s at l
  step_line l e = by_leb (suc at) (length s) (λ h. let z : l ≡ line_from s at = same (line_here h) in rw z (here_is h)) (λ h. absurd (none (line_done (omega arith))))
    where
      same : line_at s at ≡ Some (line_from s at) → l ≡ line_from s at
      same p = cc

      none : line_at s at ≡ None → ⊥
      none p = let z : ◌≡◌ {A = ℕ} 0 1 = cc in omega arith

  pub step_done : line_at s at ≡ None → lines (drop at s) ≡ []
  step_done e = by_leb (suc at) (length s) (λ h. absurd (some (line_here h))) (λ h. ap lines (drop_of_length-le s {i = at} (omega arith)))
    where
      some : line_at s at ≡ Some (line_from s at) → ⊥
      some p = let z : ◌≡◌ {A = ℕ} 0 1 = cc in omega arith

-- a cursor visits the lines in order
is_visit : (s : List ℕ) (at : ℕ) → IsVisit (λ i. lines (drop i s)) at (visit_line s at)
is_visit s at = go (line_at s at) refl
  where
    go : (x : Option Line) → line_at s at ≡ x → IsVisit (λ i. lines (drop i s)) at (visit_of_line s x)
    go (Some l) e = let i = step_line s at l e in (i.on, rw i.starts i.is)
    go None e = step_done s at e

pub in_order : (s : List ℕ) → visited (visit_line s) (length s) 0 ≡ lines s
in_order s = cursor.in_order (visit_line s) (λ i. lines (drop i s)) (length s) (is_visit s) (λ at h. ap lines (drop_of_length-le s {i = at} h))
