-- What assembly makes of a contract and a vector: the vector's expected value and the last return's tree, which has it; or a refusal.
use Rattle.std.specs.Prelude.{Option, Some, None, Result, Ok, Err}
use Rattle.source.specs.declared.function.FunctionError.{FunctionError}
use Rattle.std.specs.Prelude.{ℕ, List, Bool, ◌&&◌, eqb, leb, length}
use Rattle.base.specs.Ascii.{ascii}
use Rattle.base.specs.Need.{need}
use Rattle.utf8.specs.Utf8.{utf8}
use Rattle.lines.specs.Lines.{lines}
use Rattle.source.specs.declared.function.Places.{Places}
use Rattle.source.specs.Function.{function_of, function_error_numbered}
use Rattle.source.specs.Parameters.{parameters}
use Rattle.source.specs.Vector.{vector_number}
use Rattle.grammar.specs.Tree.{Tree, value_of}
use Rattle.scope.specs.Part.{part}
use Rattle.numbered.specs.Numbered.{plain}
use Rattle.numbered.specs.declared.Numbered.{Numbered}
use Rattle.base.specs.Outcome.{Outcome, is, refused, and_then}
use Rattle.scope.specs.Scope.{Scope, started, each}
use Rattle.scope.specs.Parameters.{keyed, parameter_bound}
use Rattle.body.specs.Body.{line_read}

abbrev pub readable : List ℕ → Bool
readable s = leb (length s) 65536 && utf8 s

-- the parameters are bound, which have places from 1; then the body is read, whose lines are numbered from 1
abbrev pub body_read : List ℕ → List ℕ → Places → Outcome Numbered Scope
body_read contract vector p =
    and_then (each (parameter_bound vector) 1 started (parameters (part contract p.params.start p.params.end)))
    (λ st. each line_read 1 st (lines (part contract p.body.start p.body.end)))

-- the value of the last return's tree is compared with the expected one
abbrev pub compared : ℕ → Tree → Option ℕ → Outcome Numbered (ℕ × Tree)
compared expected t None = refused (plain 23)
compared expected t (Some n) = need (eqb n expected) (refused (plain 24)) (is (expected, t))

abbrev pub returned : ℕ → Option Tree → Outcome Numbered (ℕ × Tree)
returned expected None = refused (plain 22)
returned expected (Some t) = compared expected t (value_of t)

-- `expected` has the place 0
abbrev pub function_read : List ℕ → List ℕ → Places → Outcome Numbered (ℕ × Tree)
function_read contract vector p =
    and_then (keyed (vector_number vector (ascii "expected")) 0) (λ expected.
    and_then (body_read contract vector p) (λ st. returned expected st.last))

abbrev pub places_of : Result Places FunctionError → Outcome Numbered Places
places_of (Ok p) = is p
places_of (Err e) = refused (function_error_numbered e)

unfoldable pub assembled_tree : List ℕ → List ℕ → Outcome Numbered (ℕ × Tree)
assembled_tree contract vector =
    need (readable contract) (refused (plain 1))
    (need (readable vector) (refused (plain 2))
    (and_then (places_of (function_of contract)) (function_read contract vector)))
