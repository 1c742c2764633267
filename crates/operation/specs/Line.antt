-- What one line says.
use Rattle.std.specs.Prelude.{Option, Some, None}
use Rattle.std.specs.Prelude.{ℕ, ◌+◌, ◌^◌, ◌<◌, ◌≡◌, List, [], ◌∷◌, Bool, true, cond, eqb, length, drop}
use Rattle.trim.specs.Trim.{trimmed, leading_blanks}
use Rattle.base.specs.Lists.{all}
use Rattle.decimal.specs.Decimal.{digit, number_of}
use Rattle.kinds.specs.Kinds.{Operand, none, value, slot, target, kind_of}
use Rattle.mnemonic.specs.Kinds.{head_of}
use Rattle.mnemonic.specs.declared.Head.{Head}
use Rattle.mnemonic.specs.declared.Head.TheVariants.{Alone, Before, Unknown}
use Rattle.operation.specs.declared.OpsError.{OpsError}
use Rattle.operation.specs.declared.OpsError.TheVariants.{BadPush, BadSlot, UnknownOp, BadTarget}
use Rattle.operation.specs.declared.line.LineRead.{LineRead}
use Rattle.operation.specs.declared.line.LineRead.TheVariants.{Skip, Op, Bad}

-- a rule for operands: the number that the trimmed text behind a kind's word says, by what the operand is
abbrev pub Rule : Type 0
Rule = Operand → List ℕ → Option ℕ

-- document 01's: Rust's `u64::from_str`, whatever the operand is
abbrev pub from_str : Rule
from_str operand t = number_of t

-- a rule that reads digits as that one does
abbrev pub ReadsDigits : Rule → Type 0
ReadsDigits rule = (operand : Operand) (d : List ℕ) → all digit d ≡ true → rule operand d ≡ number_of d

-- a rule whose numbers fit 64 bits
abbrev pub ReadsWords : Rule → Type 0
ReadsWords rule = (operand : Operand) (t : List ℕ) (v : ℕ) → rule operand t ≡ Some v → v < 2 ^ 64

-- the refusal where that text says no number; no text stands behind the word of a kind without an operand
abbrev pub bad_number : Operand → ℕ → ℕ → ℕ → OpsError
bad_number value line place len = BadPush line place len
bad_number slot line place len = BadSlot line place len
bad_number target line place len = BadTarget line place len
bad_number none line place len = BadTarget line place len

abbrev pub of_number : ℕ → ℕ → ℕ → ℕ → Option ℕ → LineRead
of_number k line place len (Some v) = Op k v
of_number k line place len None = Bad (bad_number (kind_of k).operand line place len)

-- a kind and what follows its word, which starts at an offset
abbrev pub operand_of : Rule → ℕ → ℕ → ℕ → List ℕ → LineRead
operand_of rule k line place rest =
    of_number k line (place + leading_blanks rest) (length (trimmed rest)) (rule (kind_of k).operand (trimmed rest))

-- a trimmed line, which starts at an offset
abbrev pub head_read : Rule → ℕ → ℕ → List ℕ → Head → LineRead
head_read rule line place t (Alone k) = Op k 0
head_read rule line place t (Before k n) = operand_of rule k line (place + n) (drop n t)
head_read rule line place t Unknown = Bad (UnknownOp line place (length t))

-- nothing, or a remark
abbrev pub skipped : List ℕ → Bool
skipped [] = true
skipped (a ∷ t) = eqb a 35

-- the line of a number, which starts at an offset
abbrev pub line_of : Rule → ℕ → ℕ → List ℕ → LineRead
line_of rule line start l = cond (skipped (trimmed l)) Skip (head_read rule line (start + leading_blanks l) (trimmed l) (head_of (trimmed l)))
