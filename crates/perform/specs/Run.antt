-- A run, from all that a call is given to the answer, the state and each lent buffer.
use Rattle.std.specs.Prelude.{Result, Ok, Err}
use Rattle.std.specs.Prelude.{ℕ, ◌-◌, ◌≡◌, List, ◌++◌, reverse, length, take, drop, replicate}
use Rattle.machine.specs.Machine.{Fault, out_of_gas, stack_underflow, stack_limit_exceeded, division_by_zero, storage_limit_exceeded, outside_storage, Progress, next, done, stop, decode, run_to_end}
use Rattle.checks.specs.declared.VmError.{VmError}
use Rattle.checks.specs.declared.VmError.TheVariants.{OutOfGas, StackUnderflow, StackLimitExceeded, DivisionByZero, StorageLimitExceeded, OutsideStorage}
use Rattle.perform.specs.declared.State.{State}
use Rattle.perform.specs.declared.Success.{Success}
use Rattle.perform.specs.Call.{Call}
use Rattle.perform.specs.Numbers.{run_answer_numbered}

pub record RunResult : Type 0 where
  pub answer : Result Success VmError
  pub state : State
  pub stack : List ℕ
  pub work : List ℕ
  pub storage : List ℕ

-- the machine's refusal as the call's
abbrev pub refusal_of : Fault → VmError
refusal_of (out_of_gas price left) = OutOfGas price left
refusal_of stack_underflow = StackUnderflow
refusal_of stack_limit_exceeded = StackLimitExceeded
refusal_of division_by_zero = DivisionByZero
refusal_of (storage_limit_exceeded slots) = StorageLimitExceeded slots
refusal_of outside_storage = OutsideStorage

-- 46 to 51: the storage is as before, stack and work are zero over their whole lengths
abbrev pub undone : VmError → Call → RunResult
undone f x =
    let zeros : List ℕ → List ℕ = λ buffer. replicate (length buffer) 0 in
    record { answer = Err f; state = x.state; stack = zeros x.stack; work = zeros x.work; storage = x.storage }

-- a run's progress, the stack with its bottom first; a whole run is never left unfinished
abbrev pub of_run : Call → Progress → RunResult
of_run x (next h fr) = undone (OutOfGas 0 h) x
of_run x (stop f) = undone (refusal_of f) x
of_run x (done h fr) =
    let after : State = record { used = length fr.storage } in
    record {
      answer = Ok (record { gas_spent = x.limit - h; operations = fr.ops; items = length fr.stack; state = after });
      state = after;
      stack = reverse fr.stack ++ replicate (length x.stack - length fr.stack) 0;
      work = replicate (length x.work) 0;
      storage = fr.storage ++ drop (length fr.storage) x.storage;
    }

-- the run itself, on the used slots of the storage
abbrev pub performed : Call → RunResult
performed x =
    of_run x (run_to_end (decode x.kinds x.operands) x.caller (length x.storage) x.limit (take x.state.used x.storage))

-- the state after an answer: a success carries it, a refusal leaves it
abbrev pub state_after : Result Success VmError → State → State
state_after (Ok success) state = success.state
state_after (Err f) state = state

-- the answer with its number, the state and the buffers of a call that was made in the state `from` are those of a result
pub record Meets (t : RunResult) (from : State) (a : Result Success VmError) (s w m : List ℕ) : Type 0 where
  pub answer : a ≡ t.answer
  pub says : run_answer_numbered a ≡ run_answer_numbered t.answer
  pub state : state_after a from ≡ t.state
  pub stack : s ≡ t.stack
  pub work : w ≡ t.work
  pub storage : m ≡ t.storage
