-- `operations::jump_if_not_zero` meets its contract: the closure is the test.
use Rattle.std.proofs.Common.{rules, not, eqb}
use Rattle.machine.proofs.operations.jump_if_not_zero.Goals as goal

pub returns : goal.returns
returns c = c.jump_if.ensures (λ x. not (eqb x 0)) (λ x b e. search rules)
