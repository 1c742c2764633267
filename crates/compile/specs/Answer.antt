-- The answers of the three calls in a row.
use Rattle.std.specs.Prelude.{ℕ, Result, Ok, Err}
use Rattle.numbered.specs.declared.Numbered.{Numbered}
use Rattle.operation.specs.declared.OpsError.{OpsError}
use Rattle.checks.specs.declared.VmError.{VmError}
use Rattle.perform.specs.declared.Success.{Success}
use Rattle.scope.specs.Numbers.{assemble_error_numbered}
use Rattle.assembler.specs.Answers.{assembly_numbered}
use Rattle.compile.specs.declared.Compiled.{Compiled}
use Rattle.compile.specs.declared.CompileError.{CompileError}
use Rattle.compile.specs.declared.CompileError.TheVariants.{NotAssembled, NotRead}

-- a refusal of assembly or reading ends it; else assembly's number and values, the operations read, and the transition's answer
pub data CompileAnswer : Type 0 where
  not_assembled : Numbered → CompileAnswer
  not_read : OpsError → CompileAnswer
  ran : Numbered → ℕ → Result Success VmError → CompileAnswer

abbrev pub compile_answer_of : Result Compiled CompileError → CompileAnswer
compile_answer_of (Ok c) = ran (assembly_numbered c.assembly) c.operations c.answer
compile_answer_of (Err (NotAssembled why)) = not_assembled (assemble_error_numbered why)
compile_answer_of (Err (NotRead e)) = not_read e
