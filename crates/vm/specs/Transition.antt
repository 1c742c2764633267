-- A metered run and a transition: what is tested, the run, and what is booked after it.
use Rattle.std.specs.Prelude.{Result, Ok, Err}
use Rattle.context.specs.declared.ContextError.{ContextError}
use Rattle.std.specs.Prelude.{length}
use Rattle.base.specs.Need.{need}
use Rattle.checks.specs.declared.VmError.{VmError}
use Rattle.checks.specs.declared.VmError.TheVariants.{BufferLengths}
use Rattle.checks.specs.Verify.{then_check, buffers_fit, gate_check, verify_of}
use Rattle.perform.specs.Call.{Call}
use Rattle.perform.specs.Run.{RunResult, performed}

-- 34 to 45: nothing is touched
abbrev pub untouched : VmError → Call → RunResult
untouched f x = record { answer = Err f; state = x.state; stack = x.stack; work = x.work; storage = x.storage }

abbrev pub lengths_check : Call → Result (Unit {0}) VmError
lengths_check x =
    need (buffers_fit (length x.kinds) (length x.operands) (length x.stack) (length x.work) (length x.storage) x.state.used)
    (Err BufferLengths) (Ok tt)

-- what is tested before the run: the lengths, what the call asks before the verifier, the verifier, what it asks behind it
abbrev pub checks_of : (before behind : Result (Unit {0}) VmError) → Call → Result (Unit {0}) VmError
checks_of before behind x =
    then_check (lengths_check x) (then_check before (then_check (verify_of x.kinds x.operands x.state.used) behind))

abbrev pub after_check : Result (Unit {0}) VmError → Call → RunResult → RunResult
after_check (Ok tt) x r = r
after_check (Err f) x r = untouched f x

-- a run behind its tests, with what the call books after it
abbrev pub run_under : (before behind : Result (Unit {0}) VmError) → (RunResult → RunResult) → Call → RunResult
run_under before behind book x = after_check (checks_of before behind x) x (book (performed x))

-- a metered run asks nothing of its own, and books nothing
abbrev pub metered_of : Call → RunResult
metered_of = run_under (Ok tt) (Ok tt) (λ r. r)

-- a transition asks the gate
abbrev pub transition_of : Result (Unit {0}) ContextError → Call → RunResult
transition_of gate = run_under (gate_check gate) (Ok tt) (λ r. r)
