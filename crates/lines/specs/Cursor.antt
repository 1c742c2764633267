-- Where the line that starts at an offset ends, and where the next one starts.
use Rattle.std.specs.Prelude.{Option, Some, None}
use Rattle.std.specs.Prelude.{ℕ, suc, ◌+◌, List, [], ◌∷◌, true, false, eqb, ltb, length, get_or, drop}
use Rattle.lines.specs.Lines.{lines}
use Rattle.lines.specs.declared.Line.{Line}

-- how many bytes the first line takes with its ending
abbrev pub span : List ℕ → ℕ
span [] = 0
span (a ∷ s) = elim (eqb a 10) [ true ↦ 1 | false ↦ suc (span s) ]

-- the first line without its ending
abbrev pub first_line : List ℕ → List ℕ
first_line s = get_or (lines s) 0 []

abbrev pub line_from : List ℕ → ℕ → Line
line_from s at = record { text = record { start = at; end = at + length (first_line (drop at s)) }; next = at + span (drop at s) }

-- the line that starts at an offset; at the end of the text and past it there is none
abbrev pub line_at : List ℕ → ℕ → Option Line
line_at s at = elim (ltb at (length s)) [ true ↦ Some (line_from s at) | false ↦ None ]
