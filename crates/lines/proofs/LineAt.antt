-- Laws of the line at an offset: what it is, and that there is none behind the text.
use Rattle.std.specs.Prelude.{Some, None}
use Prim.Native.Nat.{ℕ, suc, ◌+◌, ◌-◌, ◌<◌, ◌≤◌}
use mathlib.Core.Path.{◌≡◌, sym, ap, ◌∙◌}
use mathlib.Core.List.{List, [], ◌∷◌}
use native.Mathlib.Omega.{arith}
use lib.ListN.{length, take, drop, drop_of_length-le}
use Rattle.base.proofs.Tests.{by_leb}
use Rattle.lines.specs.Lines.{lines}
use Rattle.lines.specs.Cursor.{span, first_line, line_from, line_at}
use Rattle.lines.specs.Code.Visits.{head_of}
use Rattle.lines.specs.declared.Line.{Line}
use Rattle.lines.proofs.Cursor.{line_here, line_done, step_line}

module _ (text : List ℕ) (at : ℕ) where
  pub is_from : (l : Line) → line_at text at ≡ Some l → l ≡ line_from text at
  is_from l e = by_leb (suc at) (length text) (λ h. here (line_here text at h)) (λ h. absurd (none (line_done text at (omega arith))))
    where
      here : line_at text at ≡ Some (line_from text at) → l ≡ line_from text at
      here p = cc

      none : line_at text at ≡ None → ⊥
      none p = let z : ◌≡◌ {A = ℕ} 0 1 = cc in omega arith

  pub is_past : line_at text at ≡ None → length text ≤ at
  is_past e = by_leb (length text) at (λ h. h) (λ h. absurd (some (line_here text at h)))
    where
      some : line_at text at ≡ Some (line_from text at) → ⊥
      some p = let z : ◌≡◌ {A = ℕ} 0 1 = cc in omega arith

  pub past : length text ≤ at → drop at text ≡ []
  past h = drop_of_length-le text {i = at} h

  pub first_is : (l : Line) → line_at text at ≡ Some l → first_line (drop at text) ≡ take (l.text.end - at) (drop at text)
  first_is l e = ap head_of (step_line text at l e).is

-- the lines from a place within the text on
pub record Onward (text : List ℕ) (at : ℕ) : Type 0 where
  pub on : at < at + span (drop at text)
  pub fits : at + span (drop at text) ≤ length text
  pub lines : lines (drop at text) ≡ first_line (drop at text) ∷ lines (drop (at + span (drop at text)) text)

pub onward : (text : List ℕ) (at : ℕ) → at < length text → Onward text at
onward text at h =
    let e = line_here text at h in
    let i = step_line text at (line_from text at) e in
    record { on = i.on; fits = i.fits; lines = i.is ∙ ap (λ (l : List ℕ). l ∷ lines (drop (at + span (drop at text)) text)) (sym (first_is text at (line_from text at) e)) }
