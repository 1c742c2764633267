-- `line::line_read_at` meets its contract: what is known from the start on is what the line says.
use mathlib.Core.Path.{refl, sym, ap, ◌∙◌}
use Rattle.operation.specs.Line.{from_str}
use Rattle.operation.specs.Code.Fast.{known_read}
use Rattle.operation.proofs.line.line_read_at.Goals as goal

pub returns-in-Some-op : goal.returns-in-Some-op
returns-in-Some-op c =
    let k = c.in-Some.known in
    sym (c.in-Some.ensures from_str (λ operand d e. refl) c.args.line ∙ ap (λ o. record { read = known_read o; next = k.next }) c.in-Some-op.is)

pub returns-in-None : goal.returns-in-None
returns-in-None c =
    let k = c.in-Some.known in
    sym (c.in-Some.ensures from_str (λ operand d e. refl) c.args.line ∙ ap (λ o. record { read = known_read o; next = k.next }) c.in-None.is)
