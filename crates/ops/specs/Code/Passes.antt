-- The promises of the passes over a text.
use Rattle.std.specs.Prelude.{Result}
use Rattle.operation.specs.declared.OpsError.{OpsError}
use Rattle.std.specs.Prelude.{ℕ, min, ◌≡◌, List, Bool, true, false, length}
use Rattle.base.specs.Overwrite.{overwrite}
use Rattle.base.specs.Outcome.{is, and_then}
use Rattle.lines.specs.Lines.{lines}
use Rattle.kinds.specs.Kinds.{Operation}
use Rattle.operation.specs.Line.{Rule}
use Rattle.ops.specs.Ops.{Reading, read_lines, answer_of, ops_of, kinds_of, operands_of, not_empty}

-- the lines of a text, with room for what the shorter buffer holds
abbrev pub read_into : Rule → List ℕ → List ℕ → List ℕ → Reading
read_into rule text kinds operands = read_lines rule text 0 (lines text) (min (length kinds) (length operands))

-- no line is refused
pub record NoneRefused (rule : Rule) (text kinds operands : List ℕ) : Type 0 where
  pub read : List Operation
  pub is : read_into rule text kinds operands ≡ is read

-- the operations are written
pub record Filled (rule : Rule) (text kinds operands kinds_after operands_after : List ℕ) : Type 0 where
  pub in_kinds : kinds_after ≡ overwrite 0 (kinds_of (ops_of (read_into rule text kinds operands))) kinds
  pub in_operands : operands_after ≡ overwrite 0 (operands_of (ops_of (read_into rule text kinds operands))) operands

-- one pass: the answer, and the buffers by whether it writes
pub record PassOver (rule : Rule) (text kinds operands kinds_after operands_after : List ℕ) (writing : Bool) (r : Result ℕ OpsError) : Type 0 where
  pub answer : r ≡ answer_of (and_then (read_into rule text kinds operands) not_empty)
  pub kept_kinds : writing ≡ false → kinds_after ≡ kinds
  pub kept_operands : writing ≡ false → operands_after ≡ operands
  pub filled : writing ≡ true → Filled rule text kinds operands kinds_after operands_after
