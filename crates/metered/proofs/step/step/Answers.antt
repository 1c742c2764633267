-- `step::step` meets its contract: each arm has its kind as a const parameter.
use native.Mathlib.Omega.{arith}
use Rattle.metered.proofs.StepArms.{at_kind, at_halt}
use Rattle.metered.proofs.step.step.Goals as goal

pub returns-in-2 : goal.returns-in-2
returns-in-2 c = let a = c.args in at_kind 2 a.kind a.operand c.in-2.is c.step_of-in-2.ensures

pub returns-in_default : goal.returns-in_default
returns-in_default c = let a = c.args in at_halt a.kind a.operand (omega arith) c.step_of-in_default.ensures
