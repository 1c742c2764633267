-- `operations::jump_if_zero` meets its contract: the closure is the test.
use Rattle.std.proofs.Common.{rules, eqb}
use Rattle.machine.proofs.operations.jump_if_zero.Goals as goal

pub returns : goal.returns
returns c = c.jump_if.ensures (λ x. eqb x 0) (λ x b e. search rules)
