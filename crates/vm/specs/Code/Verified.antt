-- The verifier and the run behind it. The contract of a helper uses it, and no entry's.
use Rattle.std.specs.Prelude.{Ok}
use Rattle.checks.specs.Verify.{then_check, verify_of}
use Rattle.perform.specs.Call.{Call}
use Rattle.perform.specs.Run.{RunResult, performed}
use Rattle.vm.specs.Transition.{after_check}

abbrev pub verified : Call → RunResult
verified x = after_check (then_check (verify_of x.kinds x.operands x.state.used) (Ok tt)) x (performed x)
