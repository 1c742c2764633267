use mathlib.Core.Path.{◌≡◌}
use Rattle.std.specs.Prelude.{map}
use Rattle.expression.specs.Code.Parts.{level_number}
use Rattle.emission.specs.Code.Waiting.{sign_of}
use Rattle.emission.proofs.WaitingLoop.{Popping}
use Rattle.emission.proofs.waiting.Waiting.write.Given as goal

abbrev pub invariant-loop-operator : goal.invariant-loop-operator
invariant-loop-operator l = (l.self.operators ≡ l.initial.self.operators) × Popping (map sign_of l.self.operators) (level_number l.level) l.initial.self.count l.initial.out l.at l.out l.to l.self.count

abbrev pub decreases-loop-operator : goal.decreases-loop-operator
decreases-loop-operator l = l.self.count
