-- Document 01's number of each answer, with the values that it carries: those of the call that ends it.
use Rattle.std.specs.Prelude.{Result}
use Rattle.numbered.specs.declared.Numbered.{Numbered}
use Rattle.numbered.specs.Numbered.{result_numbered}
use Rattle.operation.specs.Errors.{ops_error_numbered}
use Rattle.perform.specs.Numbers.{run_answer_numbered}
use Rattle.scope.specs.Numbers.{assemble_error_numbered}
use Rattle.compile.specs.declared.Compiled.{Compiled}
use Rattle.compile.specs.declared.CompileError.{CompileError}
use Rattle.compile.specs.declared.CompileError.TheVariants.{NotAssembled, NotRead}
use Rattle.compile.specs.Answer.{CompileAnswer, not_assembled, not_read, ran}

abbrev pub compile_numbered : CompileAnswer → Numbered
compile_numbered (not_assembled r) = r
compile_numbered (not_read e) = ops_error_numbered e
compile_numbered (ran assembly operations a) = run_answer_numbered a

-- the same of the code's answers
abbrev pub compile_error_numbered : CompileError → Numbered
compile_error_numbered (NotAssembled why) = assemble_error_numbered why
compile_error_numbered (NotRead e) = ops_error_numbered e

abbrev pub ran_numbered : Compiled → Numbered
ran_numbered c = run_answer_numbered c.answer

abbrev pub compiled_numbered : Result Compiled CompileError → Numbered
compiled_numbered = result_numbered ran_numbered compile_error_numbered
