-- What a call that runs a program is given.
use Rattle.std.specs.Prelude.{ℕ, List}
use Rattle.perform.specs.declared.Run.{Run}
use Rattle.perform.specs.declared.State.{State}

-- the program's two buffers, who calls, the gas limit, the state, and the lent buffers
pub record Call : Type 0 where
  pub kinds : List ℕ
  pub operands : List ℕ
  pub caller : ℕ
  pub limit : ℕ
  pub state : State
  pub stack : List ℕ
  pub work : List ℕ
  pub storage : List ℕ

-- the same of the code's record of a run and what the lent buffers hold
abbrev pub call_of : Run → (stack work storage : List ℕ) → Call
call_of run stack work storage =
    record {
      kinds = run.program.kinds.now;
      operands = run.program.operands.now;
      caller = run.caller;
      limit = run.gas_limit;
      state = run.state;
      stack = stack;
      work = work;
      storage = storage;
    }
