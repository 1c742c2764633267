-- The three calls in a row: assembly, reading of exactly what it wrote, and the transition on the program buffers as reading left them.
use Rattle.std.specs.Prelude.{◌≡◌, List, eqb, length, Result}
use Rattle.base.specs.Overwrite.{overwrite}
use Rattle.base.specs.Need.{need}
use Rattle.numbered.specs.declared.Numbered.{Numbered}
use Rattle.kinds.specs.Kinds.{Operation}
use Rattle.ops.specs.Ops.{Reading, kinds_of, operands_of}
use Rattle.base.specs.Outcome.{is, refused}
use Rattle.perform.specs.Run as Run
use Rattle.correctness.specs.Call.{Compilation, Left, assembly_of, reading_of, transition_on}
use Rattle.compile.specs.declared.Compiled.{Compiled}
use Rattle.compile.specs.declared.CompileError.{CompileError}
use Rattle.compile.specs.Answer.{CompileAnswer, not_assembled, not_read, ran, compile_answer_of}
use Rattle.compile.specs.Numbers.{compile_numbered, compiled_numbered}

-- the answer, and what is left in the buffers
pub record CompileResult : Type 0 where
  pub answer : CompileAnswer
  pub left : Left

-- the buffers as they are lent; when assembly has written its text; and then reading its operations
abbrev pub lent : Compilation → Left
lent x = record {
  out = x.out;
  kinds = x.run.kinds;
  operands = x.run.operands;
  stack = x.run.stack;
  work = x.run.work;
  storage = x.run.storage;
}

abbrev pub assembled_in : Compilation → Left
assembled_in x =
    let b : Left = lent x in
    record {
      out = overwrite 0 (assembly_of x).text b.out;
      kinds = b.kinds;
      operands = b.operands;
      stack = b.stack;
      work = b.work;
      storage = b.storage;
    }

abbrev pub read_in : Compilation → List Operation → Left
read_in x os =
    let b : Left = assembled_in x in
    record {
      out = b.out;
      kinds = overwrite 0 (kinds_of os) b.kinds;
      operands = overwrite 0 (operands_of os) b.operands;
      stack = b.stack;
      work = b.work;
      storage = b.storage;
    }

-- the transition takes all of both program buffers
abbrev pub run_on : Compilation → Left → Run.RunResult
run_on x b = transition_on x b.kinds b.operands

abbrev pub ran_in : Compilation → Left → Left
ran_in x b =
    let t : Run.RunResult = run_on x b in
    record { out = b.out; kinds = b.kinds; operands = b.operands; stack = t.stack; work = t.work; storage = t.storage }

-- after an assembly's answer 0 and a reading
abbrev pub after_reading : Compilation → Numbered → Reading → CompileResult
after_reading x a (refused e) = record { answer = not_read e; left = assembled_in x }
after_reading x a (is os) = record { answer = ran a (length os) (run_on x (read_in x os)).answer; left = ran_in x (read_in x os) }

-- after an assembly's answer
abbrev pub after_assembly : Compilation → Numbered → CompileResult
after_assembly x a = need (eqb a.number 0) (record { answer = not_assembled a; left = lent x }) (after_reading x a (reading_of x))

unfoldable pub compile_of : Compilation → CompileResult
compile_of x = after_assembly x (assembly_of x).answer

-- a call's answer r and the buffers b at its exit are those of a result
pub record Composes (c : CompileResult) (r : Result Compiled CompileError) (b : Left) : Type 0 where
  pub answer : compile_answer_of r ≡ c.answer
  pub number : compiled_numbered r ≡ compile_numbered c.answer
  pub out : b.out ≡ c.left.out
  pub kinds : b.kinds ≡ c.left.kinds
  pub operands : b.operands ≡ c.left.operands
  pub stack : b.stack ≡ c.left.stack
  pub work : b.work ≡ c.left.work
  pub storage : b.storage ≡ c.left.storage
