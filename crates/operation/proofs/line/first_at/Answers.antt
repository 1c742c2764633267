-- `line::first_at` meets its contract: a line that starts with no White_Space.
use mathlib.Core.Path.{sym, ◌∙◌}
use Rattle.operation.proofs.BlankLines.{not_indented}
use Rattle.operation.proofs.line.first_at.Goals as goal

pub returns-then-in_range : goal.returns-then-in_range
returns-then-in_range c = not_indented c.args.text.now c.args.at c.requires (sym c.in_range.ensures ∙ c.if-in_range.true)
