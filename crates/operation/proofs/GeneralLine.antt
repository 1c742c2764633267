-- The general way gives what the line at an offset says.
use Rattle.std.specs.Prelude.{Some}
use Prim.Native.Nat.{ℕ, ◌-◌}
use mathlib.Core.Path.{◌≡◌, sym, ap, ap₂, ◌∙◌}
use mathlib.Core.List.{List}
use lib.ListN.{take, drop}
use Rattle.lines.specs.Cursor.{line_at}
use Rattle.lines.specs.declared.Line.{Line}
use Rattle.lines.proofs.LineAt.{is_from, first_is}
use Rattle.operation.specs.Line.{Rule, line_of}
use Rattle.operation.specs.Code.Fast.{line_read_at}
use Rattle.operation.specs.declared.line.LineRead.{LineRead}
use Rattle.operation.specs.declared.line.ReadLine.{ReadLine}

module _ (text : List ℕ) (at : ℕ) where
  pub reached_next : (rule : Rule) (line : ℕ) (l : Line) (r : LineRead) → line_at text at ≡ Some l → r ≡ line_of rule line at (take (l.text.end - at) (drop at text))
      → ◌≡◌ {A = ReadLine} (record { read = r; next = l.next }) (line_read_at rule text at line)
  reached_next rule line l r e p =
      ap₂ (λ r n. record { read = r; next = n }) (p ∙ ap (line_of rule line at) (sym (first_is text at l e))) (ap (λ (l : Line). l.next) (is_from text at l e))
