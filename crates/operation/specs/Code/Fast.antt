-- What the line at an offset says, and the fast way's answers.
use Rattle.std.specs.Prelude.{Option, Some, None}
use Rattle.std.specs.Prelude.{ℕ, ◌+◌, ◌<◌, ◌≡◌, List, length, drop}
use Rattle.lines.specs.Cursor.{span, first_line}
use Rattle.trim.specs.Code.Blank.{blanks_end}
use Rattle.operation.specs.Line.{Rule, ReadsDigits, line_of}
use Rattle.operation.specs.declared.line.ReadLine.{ReadLine}
use Rattle.operation.specs.declared.line.LineRead.{LineRead}
use Rattle.operation.specs.declared.line.LineRead.TheVariants.{Skip, Op}
use Rattle.operation.specs.declared.line.KnownLine.{KnownLine}
use Rattle.plain_op.specs.declared.PlainOp.{PlainOp}

-- the line that starts at an offset, its number being line
abbrev pub line_read_at : Rule → List ℕ → ℕ → ℕ → ReadLine
line_read_at rule text at line = record { read = line_of rule line at (first_line (drop at text)); next = at + span (drop at text) }

-- the line at an offset says the same by every rule that reads digits as document 01's does
abbrev pub LineSays : List ℕ → ℕ → ReadLine → Type 0
LineSays text at reached = (rule : Rule) → ReadsDigits rule → (line : ℕ) → line_read_at rule text at line ≡ reached

abbrev pub known_read : Option PlainOp → LineRead
known_read (Some o) = Op o.kind o.operand
known_read None = Skip

-- an answer of the fast way is what the line says
abbrev pub FastRead : List ℕ → ℕ → Option KnownLine → Type 0
FastRead text at (Some known) = LineSays text at (record { read = known_read known.op; next = known.next })
FastRead text at None = Unit

-- a line starts at an offset, and the White_Space that it starts with ends at another
pub record Indented (text : List ℕ) (at first : ℕ) : Type 0 where
  pub within : at < length text
  pub is : first ≡ blanks_end text at
