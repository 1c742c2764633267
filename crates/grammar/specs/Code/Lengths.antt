-- The length of the text that a tree is written as.
use Rattle.std.specs.Prelude.{ℕ, ◌+◌, length}
use Rattle.word.specs.Apply.{Binary}
use Rattle.decimal.specs.Decimal.{decimal}
use Rattle.mnemonic.specs.Written.{written}
use Rattle.grammar.specs.Tree.{Tree, bin, num}
use Rattle.grammar.specs.Code.Operator.{operator_of}

-- the length of the line that an operator is written as
abbrev pub operator_length : Binary → ℕ
operator_length op = length (written (operator_of op))

-- the length of the text that a tree is written as: `Push`, a space, the decimal and a line feed for a number
abbrev pub len_of : Tree → ℕ
len_of (num n) = 6 + length (decimal n)
len_of (bin op l r) = len_of l + len_of r + operator_length op
