-- Laws of the line that the iterator over a text gives behind so many others.
use Rattle.std.specs.Prelude.{Option, Some, None, MatchOption}
use Rattle.std.specs.Iterator.{Yields}
use Prim.Native.Nat.{ℕ, zero, suc, ◌+◌, ◌≤◌}
use mathlib.Core.Path.{◌≡◌, sym, ap, ◌∙◌}
use mathlib.Core.List.{List, [], ◌∷◌}
use native.Mathlib.Omega.{arith}
use lib.ListN.{length, drop}
use Rattle.lines.specs.Cursor.{span, line_at}
use Rattle.lines.specs.Code.Visits.{GivesLine}
use Rattle.lines.specs.declared.Line.{Line}
use Rattle.lines.specs.declared.Lines.{Lines}
use Rattle.lines.proofs.Cursor.{line_done}
use Rattle.lines.proofs.LineAt.{is_from, is_past}
use Rattle.ops.specs.Ops.{start_of}
use Rattle.ops.proofs.LineStarts.{one_further}

abbrev pub gives : Lines → Option Line → Lines → Type 0
gives s r t = GivesLine s.text.now s.at r t.text.now t.at

-- behind no line: the one at the place itself, or none from there on
at_once : (text : List ℕ) (n at : ℕ) (r : Option Line) → r ≡ line_at text at → MatchOption r (0 ≤ n) (λ _. 0 ≡ n) → r ≡ line_at text (at + start_of n (drop at text))
at_once text n at None e m = sym (line_done text (at + start_of n (drop at text)) (let p = is_past text at (sym e) in omega arith))
at_once text n at (Some l) e m =
    let z : at ≡ at + start_of n (drop at text) = omega (arith, ap (λ (k : ℕ). start_of k (drop at text)) m) in
    e ∙ ap (line_at text) z

one_less : (n k : ℕ) (r : Option Line) → MatchOption r (suc k ≤ suc n) (λ _. suc k ≡ suc n) → MatchOption r (k ≤ n) (λ _. k ≡ n)
one_less n k None m = omega (arith, m)
one_less n k (Some l) m = omega (arith, m)

too_many : {P : Type 0} (k : ℕ) (r : Option Line) → MatchOption r (suc k ≤ 0) (λ _. suc k ≡ 0) → P
too_many k None m = absurd (omega (arith, m))
too_many k (Some l) m = absurd (omega (arith, m))

-- behind the lines xs
pub nth_is : (text : List ℕ) (xs : List Line) (n : ℕ) (s t u : Lines) (r : Option Line) → s.text.now ≡ text → Yields gives s xs t → gives t r u
    → MatchOption r (length xs ≤ n) (λ _. length xs ≡ n) → r ≡ line_at text (s.at + start_of n (drop s.at text))
nth_is text [] n s t u r e y g m = at_once text n s.at r (g.0 ∙ sym (ap (λ (x : Lines). line_at x.text.now x.at) y) ∙ ap (λ (x : List ℕ). line_at x s.at) e) m
nth_is text (x ∷ xs) zero s t u r e y g m = too_many (length xs) r m
nth_is text (x ∷ xs) (suc n) s t u r e y g m =
    let j = y.0 in
    let p : line_at text s.at ≡ Some x = sym (y.1.0 ∙ ap (λ (k : List ℕ). line_at k s.at) e) in
    let q : j.at ≡ s.at + span (drop s.at text) = y.1.1.1 ∙ ap (λ (l : Line). l.next) (is_from text s.at x p) in
    nth_is text xs n j t u r (y.1.1.0 ∙ e) y.2 g (one_less n (length xs) r m)
    ∙ ap (λ (k : ℕ). line_at text (k + start_of n (drop k text))) q
    ∙ ap (line_at text) (sym (one_further text s.at n))
