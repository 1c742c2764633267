-- The contract's function. Every search takes the first occurrence.
use Rattle.std.specs.Prelude.{Result, Ok, Err}
use Rattle.source.specs.declared.function.Places.{Places}
use Rattle.std.specs.Prelude.{ℕ, ◌+◌, List}
use Rattle.base.specs.Ascii.{ascii}
use Rattle.numbered.specs.declared.Numbered.{Numbered}
use Rattle.numbered.specs.Numbered.{plain, result_numbered}
use Rattle.search.specs.First.{first_at}
use Rattle.source.specs.declared.function.FunctionError.{FunctionError}
use Rattle.source.specs.declared.function.FunctionError.TheVariants.{NoFunction, NoParameters, UnclosedParameters, NoBody, UnclosedBody}
use Rattle.source.specs.Found.{found_or}

-- `fn `, the first `(` after it, the first `)` after that, the first `{` after that, the first `}` after that.
-- The parameters stand between the parentheses, the body between the braces.
abbrev pub function_of : List ℕ → Result Places FunctionError
function_of s =
    found_or (first_at (ascii "fn ") s 0) (Err NoFunction) (λ name.
    found_or (first_at (ascii "(") s (name + 3)) (Err NoParameters) (λ left.
    found_or (first_at (ascii ")") s (left + 1)) (Err UnclosedParameters) (λ right.
    found_or (first_at (ascii "{") s (right + 1)) (Err NoBody) (λ brace.
    found_or (first_at (ascii "}") s (brace + 1)) (Err UnclosedBody) (λ end.
    Ok (record { params = record { start = left + 1; end = right }; body = record { start = brace + 1; end = end } }))))))

-- document 01's number of each case
abbrev pub function_error_numbered : FunctionError → Numbered
function_error_numbered NoFunction = plain 3
function_error_numbered NoParameters = plain 4
function_error_numbered UnclosedParameters = plain 5
function_error_numbered NoBody = plain 6
function_error_numbered UnclosedBody = plain 7

abbrev pub function_numbered : Result Places FunctionError → Numbered
function_numbered = result_numbered (λ p. plain 0) function_error_numbered
