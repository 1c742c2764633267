-- Laws of the body's lines: the one at a place, and those that follow it.
use Rattle.std.specs.Prelude.{Some, None}
use Prim.Native.Nat.{ℕ, ◌-◌}
use mathlib.Core.Path.{◌≡◌, sym, ap, ◌∙◌}
use mathlib.Core.List.{List, [], ◌∷◌}
use native.Mathlib.Omega.{arith}
use lib.ListN.{take, drop}
use lib.Seq.{length-take-le}
use Rattle.base.proofs.Parts.{take-drop_slice}
use Rattle.lines.specs.declared.Line.{Line}
use Rattle.lines.specs.Lines.{lines}
use Rattle.lines.specs.Cursor.{line_at}
use Rattle.lines.proofs.Cursor.{step_line, step_done}
use Rattle.scope.specs.Part.{part}
use Rattle.scope.specs.Code.Held.{Within}
use Rattle.scope.proofs.Tables.{part_take}
use Rattle.scope.proofs.Loops.{Item}

-- the lines from a place on, of the text before another
abbrev pub lines_from : List ℕ → ℕ → ℕ → List (List ℕ)
lines_from s end at = lines (drop at (take end s))

module _ (s : List ℕ) (start end : ℕ) (w : Within s start end) where
  pub all_lines : lines (part s start end) ≡ lines_from s end start
  all_lines = ap lines (take-drop_slice s start end w.ordered w.inside)

  pub lines_done : (at : ℕ) → line_at (take end s) at ≡ None → lines_from s end at ≡ []
  lines_done at e = step_done (take end s) at e

  pub line_item : (at : ℕ) (l : Line) → line_at (take end s) at ≡ Some l → Item s (lines_from s end) end at l.text.start l.text.end l.next
  line_item at l e =
      let i = step_line (take end s) at l e in
      let n = length-take-le end s w.inside in
      record {
        low = omega (arith, i.starts);
        ordered = omega (arith, i.starts, i.ends);
        before = i.before;
        on = i.on;
        high = omega (arith, i.fits);
        is = i.is ∙ ap (λ (t : List ℕ). t ∷ lines_from s end l.next) (part_take s end end (omega arith) w.inside at (l.text.end - at) (omega (arith, i.ends, i.before, i.fits)))
            ∙ ap (λ (k : ℕ). part s k l.text.end ∷ lines_from s end l.next) (sym i.starts);
      }
