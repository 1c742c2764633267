-- Document 01's number of each refusal, with the values that it carries.
use Rattle.std.specs.Prelude.{[], ◌∷◌}
use Rattle.numbered.specs.declared.Numbered.{Numbered}
use Rattle.numbered.specs.Numbered.{plain, carrying, located}
use Rattle.source.specs.Function.{function_error_numbered}
use Rattle.source.specs.Vector.{key_error_numbered}
use Rattle.expression.specs.Answer.{expr_error_numbered}
use Rattle.scope.specs.declared.refusal.AssembleError.{AssembleError}
use Rattle.scope.specs.declared.refusal.AssembleError.TheVariants.{Contract, Vector, Function, Key, NoEquals, Expression, TooLong, TooManyBindings, NoReturn, NoValue, NotExpected, BadStem, OutputTooLong}

abbrev pub assemble_error_numbered : AssembleError → Numbered
assemble_error_numbered Contract = plain 1
assemble_error_numbered Vector = plain 2
assemble_error_numbered (Function e) = function_error_numbered e
assemble_error_numbered (Key e place) = located (key_error_numbered e) place
assemble_error_numbered (NoEquals line) = carrying 12 (line ∷ [])
assemble_error_numbered (Expression e line) = located (expr_error_numbered e) line
assemble_error_numbered (TooLong line) = carrying 20 (line ∷ [])
assemble_error_numbered TooManyBindings = plain 21
assemble_error_numbered NoReturn = plain 22
assemble_error_numbered NoValue = plain 23
assemble_error_numbered NotExpected = plain 24
assemble_error_numbered BadStem = plain 25
assemble_error_numbered OutputTooLong = plain 26
