-- Where the lines of a text start, and the line of a number.
use Rattle.std.specs.Prelude.{Some, None, Option}
use Prim.Native.Nat.{ℕ, zero, suc, ◌+◌, ◌-◌, ◌<◌, ◌≤◌}
use mathlib.Core.Path.{◌≡◌, refl, sym, ap, ap₂, subst, ◌∙◌}
use mathlib.Core.List.{List, [], ◌∷◌}
use mathlib.Core.Bool.{Bool, true, false, cond, ◌&&◌}
use borrow.Author.Tests.{le-leb, lt-leb}
use native.Mathlib.Omega.{arith}
use lib.Dec.{leb}
use lib.ListN.{length, get_or, take, drop, length-drop}
use lib.Seq.{drop-drop}
use Rattle.base.proofs.Tests.{by_leb}
use Rattle.utf8.specs.Utf8.{utf8}
use Rattle.lines.specs.Lines.{lines}
use Rattle.lines.specs.Cursor.{span, first_line, line_at}
use Rattle.lines.specs.Code.Visits.{head_of, IsLine}
use Rattle.lines.specs.declared.Line.{Line}
use Rattle.lines.proofs.Cursor.{step_line}
use Rattle.lines.proofs.LineAt.{past, is_past, first_is, onward}
use Rattle.trim.specs.Trim.{trimmed, leading_blanks}
use Rattle.ops.specs.Ops.{start_of, nth_line, trimmed_line, trimmed_place}
use Rattle.ops.specs.Code.Numbered.{nth_step, line_numbered}

-- where the next line starts
pub next_start : (n : ℕ) (text : List ℕ) → start_of (suc n) text ≡ start_of n text + span (drop (start_of n text) text)
next_start zero text = omega arith
next_start (suc n) text =
    let s = span text in
    let e = next_start n (drop s text) in
    let d = drop-drop (start_of n (drop s text)) s text in
    ap (λ m. s + m) e
    ∙ omega (arith, ap span d)

-- the lines of a text with some byte: the first, and the others
lines_after : (text : List ℕ) → 0 < length text → lines text ≡ first_line text ∷ lines (drop (span text) text)
lines_after text h = let z : 0 + span text ≡ span text = omega arith in (onward text 0 h).lines ∙ ap (λ (k : ℕ). first_line text ∷ lines (drop k text)) z

-- what stands there
pub starts_at : (n : ℕ) (text : List ℕ) → first_line (drop (start_of n text) text) ≡ get_or (lines text) n []
starts_at zero text = go (lines text)
  where
    go : (ls : List (List ℕ)) → head_of ls ≡ get_or ls 0 []
    go [] = refl
    go (l ∷ ls) = refl
starts_at (suc n) text =
    let s = span text in
    by_leb (length text) 0
    (λ h. ap first_line (past text (start_of (suc n) text) (omega arith)) ∙ ap (λ (t : List ℕ). get_or (lines t) (suc n) []) (sym (past text 0 h)))
    (λ h. ap first_line (sym (drop-drop (start_of n (drop s text)) s text))
    ∙ starts_at n (drop s text)
    ∙ ap (λ (ls : List (List ℕ)). get_or ls (suc n) []) (sym (lines_after text h)))

-- a line starts within the text just where it is one of the lines
pub has_line : (n : ℕ) (text : List ℕ) → start_of n text < length text → n < length (lines text)
has_line zero text h = let e = ap length (lines_after text h) in omega (arith, e)
has_line (suc n) text h =
    let d = length-drop (span text) text in
    let i = has_line n (drop (span text) text) (omega (arith, d)) in
    let e = ap length (lines_after text (omega arith)) in omega (arith, e, i)

pub no_line : (n : ℕ) (text : List ℕ) → length text ≤ start_of n text → length (lines text) ≤ n
no_line zero text h = let e = ap (λ (t : List ℕ). length (lines t)) (past text 0 h) in omega (arith, e)
no_line (suc n) text h =
    by_leb (length text) 0 (λ g. let e = ap (λ (t : List ℕ). length (lines t)) (past text 0 g) in omega (arith, e))
    (λ g. let d = length-drop (span text) text in
    let i = no_line n (drop (span text) text) (omega (arith, d)) in
    let e = ap length (lines_after text g) in omega (arith, e, i))

-- the lines before a line, from a place on
module _ (text : List ℕ) (at n : ℕ) where
  pub one_further : at + start_of (suc n) (drop at text) ≡ at + span (drop at text) + start_of n (drop (at + span (drop at text)) text)
  one_further = omega (arith, ap (start_of n) (drop-drop (span (drop at text)) at text))

-- the line of a number
pub no_number : (text : List ℕ) (n : ℕ) → n ≡ 0 → line_numbered text n ≡ None
no_number text n e = ap (line_numbered text) e ∙ go (utf8 text)
  where
    go : (b : Bool) → ◌≡◌ {A = Option Line} (cond b None None) None
    go true = refl
    go false = refl

pub numbered : (text : List ℕ) (n : ℕ) → utf8 text ≡ true → (n ≡ 0 → ⊥) → line_numbered text n ≡ line_at text (0 + start_of (n - 1) text)
numbered text n u h =
    let e : n ≡ suc (n - 1) = omega arith in
    let z : start_of (n - 1) text ≡ 0 + start_of (n - 1) text = omega arith in
    ap (λ (b : Bool). cond b (nth_step n text) None) u ∙ ap (λ (m : ℕ). nth_step m text) e ∙ ap (line_at text) z

-- where the trimmed text of the line of a number starts, by whether the text is UTF-8; and of a line with k before it
module _ (text : List ℕ) where
  abbrev place_by : Bool → ℕ → ℕ
  place_by b n = cond (b && leb n (length (lines text))) (start_of (n - 1) text + leading_blanks (nth_line n (lines text))) 0

  abbrev placed : ℕ → ℕ
  placed k = cond (leb (suc k) (length (lines text))) (start_of k text + leading_blanks (get_or (lines text) k [])) 0

-- what the line of a number says, by where it stands
by_number : {P : Type 0} (text : List ℕ) (n : ℕ) → (line_numbered text n ≡ None → trimmed_line text n ≡ [] → trimmed_place text n ≡ 0 → P)
    → ((k : ℕ) → line_numbered text n ≡ line_at text (start_of k text) → trimmed_line text n ≡ trimmed (get_or (lines text) k []) → trimmed_place text n ≡ placed text k → P)
    → P
by_number {P = P} text n none some = go (utf8 text) n refl refl
  where
    go : (b : Bool) (m : ℕ) → utf8 text ≡ b → n ≡ m → P
    go false m u e = none (simp u) (simp u) (simp u)
    go true zero u e =
        none (no_number text n e) (ap (λ (b : Bool). cond b (trimmed (nth_line n (lines text))) []) u ∙ ap (λ (m : ℕ). trimmed (nth_line m (lines text))) e)
        (ap₂ (place_by text) u e ∙ ap (λ (b : Bool). cond b 0 0) (le-leb 0 (length (lines text)) (omega arith)))
    go true (suc k) u e =
        some k (ap (λ (b : Bool). cond b (nth_step n text) None) u ∙ ap (λ (m : ℕ). nth_step m text) e)
        (ap (λ (b : Bool). cond b (trimmed (nth_line n (lines text))) []) u ∙ ap (λ (m : ℕ). trimmed (nth_line m (lines text))) e)
        (let z : suc k - 1 ≡ k = omega arith in
        ap₂ (place_by text) u e ∙ ap (λ (i : ℕ). cond (leb (suc k) (length (lines text))) (start_of i text + leading_blanks (get_or (lines text) k [])) 0) z)

-- by where the line starts
module _ (text : List ℕ) (k : ℕ) where
  placed_here : start_of k text < length text → placed text k ≡ start_of k text + leading_blanks (first_line (drop (start_of k text) text))
  placed_here h =
      ap (λ (b : Bool). cond b (start_of k text + leading_blanks (get_or (lines text) k [])) 0) (le-leb (suc k) (length (lines text)) (has_line k text h))
      ∙ ap (λ (l : List ℕ). start_of k text + leading_blanks l) (sym (starts_at k text))

  placed_none : length text ≤ start_of k text → placed text k ≡ 0
  placed_none h = ap (λ (b : Bool). cond b (start_of k text + leading_blanks (get_or (lines text) k [])) 0) (lt-leb (suc k) (length (lines text)) (omega (arith, no_line k text h)))

module _ (text : List ℕ) (n : ℕ) where
  pub numbered_none : line_numbered text n ≡ None → trimmed_line text n ≡ []
  numbered_none e =
      by_number text n (λ _ t _. t)
      (λ k p t _. t ∙ ap trimmed (sym (starts_at k text) ∙ ap first_line (past text (start_of k text) (is_past text (start_of k text) (sym p ∙ e)))))

  pub none_place : line_numbered text n ≡ None → trimmed_place text n ≡ 0
  none_place e = by_number text n (λ _ _ w. w) (λ k p _ w. w ∙ placed_none text k (is_past text (start_of k text) (sym p ∙ e)))

  module _ (l : Line) (e : line_numbered text n ≡ Some l) where
    some_line : line_numbered text n ≡ None → ⊥
    some_line p = let z : ◌≡◌ {A = ℕ} 0 1 = cc in omega arith

    pub numbered_line : IsLine text l.text.start l
    numbered_line =
        by_number text n (λ p _ _. absurd (some_line p))
        (λ k p _ _. let i = step_line text (start_of k text) l (sym p ∙ e) in subst (λ (a : ℕ). IsLine text a l) (sym i.starts) i)

    pub numbered_text : trimmed (take (l.text.end - l.text.start) (drop l.text.start text)) ≡ trimmed_line text n
    numbered_text =
        by_number text n (λ p _ _. absurd (some_line p))
        (λ k p t _.
        let i = step_line text (start_of k text) l (sym p ∙ e) in
        ap (λ (a : ℕ). trimmed (take (l.text.end - a) (drop a text))) i.starts
        ∙ ap trimmed (sym (first_is text (start_of k text) l (sym p ∙ e)) ∙ starts_at k text) ∙ sym t)

    pub numbered_place : trimmed_place text n ≡ l.text.start + leading_blanks (take (l.text.end - l.text.start) (drop l.text.start text))
    numbered_place =
        by_number text n (λ p _ _. absurd (some_line p))
        (λ k p _ w.
        let i = step_line text (start_of k text) l (sym p ∙ e) in
        let h : start_of k text < length text = omega (arith, i.on, i.fits) in
        w ∙ placed_here text k h
        ∙ ap (λ (s : List ℕ). start_of k text + leading_blanks s) (first_is text (start_of k text) l (sym p ∙ e))
        ∙ ap (λ (a : ℕ). a + leading_blanks (take (l.text.end - a) (drop a text))) (sym i.starts))
