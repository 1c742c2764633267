-- Where the line of a number from 1 stands.
use Rattle.std.specs.Prelude.{Option, None}
use Rattle.lines.specs.declared.Line.{Line}
use Rattle.std.specs.Prelude.{ℕ, zero, suc, List, cond}
use Rattle.utf8.specs.Utf8.{utf8}
use Rattle.lines.specs.Cursor.{line_at}
use Rattle.ops.specs.Ops.{start_of}

abbrev pub nth_step : ℕ → List ℕ → Option Line
nth_step zero text = None
nth_step (suc n) text = line_at text (start_of n text)

abbrev pub line_numbered : List ℕ → ℕ → Option Line
line_numbered text n = cond (utf8 text) (nth_step n text) None
