-- The number of bindings falls at each name.
use Rattle.std.proofs.Common.{◌+◌, ◌-◌, ◌*◌}
use Rattle.emission.specs.Code.Emitted.{sources_known}
use Rattle.emission.proofs.Loop.{Running}
use Rattle.emission.proofs.+binding_expression.Given as goal

abbrev pub decreases-binding : goal.decreases-binding
decreases-binding l = 2 * l.b + 1

abbrev pub decreases-expression : goal.decreases-expression
decreases-expression l = 2 * l.known.count

abbrev pub invariant-expression-loop-i : goal.invariant-expression-loop-i
invariant-expression-loop-i l =
    Running l.known.text.now (sources_known l.known) l.known.count l.expr.start l.expr.end l.initial.out l.at l.out l.to l.waiting l.i l.due l.pieces

abbrev pub decreases-expression-loop-i : goal.decreases-expression-loop-i
decreases-expression-loop-i l = l.expr.end - l.i
