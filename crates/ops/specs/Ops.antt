-- The operations of a text, and the refusals by document 01's numbers.
use Rattle.std.specs.Prelude.{Result, Ok, Err}
use Rattle.std.specs.Prelude.{ℕ, zero, suc, ◌+◌, ◌-◌, min, ◌≡◌, List, [], ◌∷◌, map, cond, ◌&&◌, leb, length, get_or, drop}
pub use Rattle.kinds.specs.Kinds.{Operation}
use Rattle.base.specs.Overwrite.{overwrite}
use Rattle.base.specs.Outcome.{Outcome, is, refused, and_then}
use Rattle.utf8.specs.Utf8.{utf8}
use Rattle.lines.specs.Lines.{lines}
use Rattle.lines.specs.Cursor.{span}
use Rattle.trim.specs.Trim.{trimmed, leading_blanks}
use Rattle.kinds.specs.Kinds.{operation}
use Rattle.operation.specs.Line.{Rule, from_str, line_of}
use Rattle.ops.specs.Numbers.{parsed_ops_numbered}
use Rattle.operation.specs.declared.OpsError.{OpsError}
use Rattle.operation.specs.declared.OpsError.TheVariants.{NotUtf8, Full, Empty}
use Rattle.operation.specs.declared.line.LineRead.{LineRead}
use Rattle.operation.specs.declared.line.LineRead.TheVariants.{Skip, Op, Bad}

abbrev pub Reading : Type 0
Reading = Outcome OpsError (List Operation)

-- where a line starts that has n lines before it; the text's end where there is none
abbrev pub start_of : ℕ → List ℕ → ℕ
start_of zero s = 0
start_of (suc n) s = span s + start_of n (drop (span s) s)

-- a good operation, with room for as many
abbrev pub with_room : ℕ → ℕ → (ℕ → Reading) → Operation → Reading
with_room line zero more o = refused (Full line)
with_room line (suc room) more o = and_then (more room) (λ os. is (o ∷ os))

-- what a line says, and then what the lines after it say with the room that is left
abbrev pub then_read : ℕ → ℕ → (ℕ → Reading) → LineRead → Reading
then_read line room more Skip = more room
then_read line room more (Op k v) = with_room line room more (operation k v)
then_read line room more (Bad e) = refused e

-- the lines of a text, n of its lines being before them
abbrev pub read_lines : Rule → List ℕ → ℕ → List (List ℕ) → ℕ → Reading
read_lines rule text n [] room = is []
read_lines rule text n (l ∷ ls) room =
    then_read (n + 1) room (read_lines rule text (n + 1) ls) (line_of rule (n + 1) (start_of n text) l)

abbrev pub not_empty : List Operation → Reading
not_empty [] = refused Empty
not_empty (o ∷ os) = is (o ∷ os)

-- a text by a rule for operands, with room for as many operations
abbrev pub read_by : Rule → List ℕ → ℕ → Reading
read_by rule text room = cond (utf8 text) (and_then (read_lines rule text 0 (lines text) room) not_empty) (refused NotUtf8)

-- by document 01's rule
abbrev pub read_text : List ℕ → ℕ → Reading
read_text text room = read_by from_str text room

-- the answer, and the operations where there is no refusal
abbrev pub answer_of : Reading → Result ℕ OpsError
answer_of (is os) = Ok (length os)
answer_of (refused e) = Err e

abbrev pub ops_of : Reading → List Operation
ops_of (is os) = os
ops_of (refused e) = []

abbrev pub kinds_of : List Operation → List ℕ
kinds_of os = map (λ o. o.kind) os

abbrev pub operands_of : List Operation → List ℕ
operands_of os = map (λ o. o.operand) os

-- what reading gives: the answer, document 01's number and values of it, and the buffers
pub record ReadsOps (text kinds operands kinds_after operands_after : List ℕ) (r : Result ℕ OpsError) : Type 0 where
  pub answer : r ≡ answer_of (read_text text (min (length kinds) (length operands)))
  pub says : parsed_ops_numbered r ≡ parsed_ops_numbered (answer_of (read_text text (min (length kinds) (length operands))))
  pub kinds_written : kinds_after ≡ overwrite 0 (kinds_of (ops_of (read_text text (min (length kinds) (length operands))))) kinds
  pub operands_written : operands_after ≡ overwrite 0 (operands_of (ops_of (read_text text (min (length kinds) (length operands))))) operands

-- the line of a number from 1
abbrev pub nth_line : ℕ → List (List ℕ) → List ℕ
nth_line zero ls = []
nth_line (suc n) ls = get_or ls n []

-- its trimmed text; empty where the text is not UTF-8 or has no such line
abbrev pub trimmed_line : List ℕ → ℕ → List ℕ
trimmed_line text n = cond (utf8 text) (trimmed (nth_line n (lines text))) []

-- where that text starts; 0 where the text is not UTF-8 or has no such line
abbrev pub trimmed_place : List ℕ → ℕ → ℕ
trimmed_place text n = cond (utf8 text && leb n (length (lines text))) (start_of (n - 1) text + leading_blanks (nth_line n (lines text))) 0
