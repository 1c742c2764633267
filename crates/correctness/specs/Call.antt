-- What is passed to assembly, reading and transition in a row, and what each of the three makes of it.
use Rattle.std.specs.Prelude.{Result}
use Rattle.context.specs.declared.ContextError.{ContextError}
use Rattle.std.specs.Prelude.{ℕ, min, List, length}
use Rattle.ops.specs.Ops.{Reading, read_text}
use Rattle.perform.specs.Call.{Call}
use Rattle.perform.specs.Run.{RunResult}
use Rattle.vm.specs.Transition.{transition_of}
use Rattle.contract.specs.Output.{Assembly, assembled}

-- what is passed: assembly's texts and its buffer; the context, which is what the gate says of its eight texts; and the transition's
-- call, whose two program buffers are lent to reading first
pub record Compilation : Type 0 where
  pub contract : List ℕ
  pub vector : List ℕ
  pub stem : List ℕ
  pub out : List ℕ
  pub context : Result (Unit {0}) ContextError
  pub run : Call

-- what is left in the lent buffers: assembly's, reading's two, the transition's three
pub record Left : Type 0 where
  pub out : List ℕ
  pub kinds : List ℕ
  pub operands : List ℕ
  pub stack : List ℕ
  pub work : List ℕ
  pub storage : List ℕ

-- assembly, and the reading of exactly the text that it writes
abbrev pub assembly_of : Compilation → Assembly
assembly_of x = assembled x.contract x.vector x.stem (length x.out)

abbrev pub reading_of : Compilation → Reading
reading_of x = read_text (assembly_of x).text (min (length x.run.kinds) (length x.run.operands))

-- a call with these kinds and operands
abbrev pub with_program : Call → (kinds operands : List ℕ) → Call
with_program x kinds operands = record {
  kinds = kinds;
  operands = operands;
  caller = x.caller;
  limit = x.limit;
  state = x.state;
  stack = x.stack;
  work = x.work;
  storage = x.storage;
}

-- the transition on two program buffers, which it takes whole
abbrev pub transition_on : Compilation → (kinds operands : List ℕ) → RunResult
transition_on x kinds operands = transition_of x.context (with_program x.run kinds operands)
