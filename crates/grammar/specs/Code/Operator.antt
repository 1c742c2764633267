-- The operation of an operator, and its level by its sign.
use Rattle.std.specs.Prelude.{ℕ, ◌+◌, cond}
use Rattle.word.specs.Apply.{Binary}
use Rattle.kinds.specs.Kinds.{Operation, operation}
use Rattle.grammar.specs.Grammar.{levels}
use Rattle.grammar.specs.Parse.{term, sum, expression, is_operator_at}
use Rattle.grammar.specs.Written.{kind_number}

abbrev pub operator_of : Binary → Operation
operator_of op = operation (kind_number op) 0

-- the level that a sign joins operands to; one above all levels for a byte that is no operator
abbrev pub level_of : ℕ → ℕ
level_of a = cond (is_operator_at term a) term (cond (is_operator_at sum a) sum (cond (is_operator_at expression a) expression (levels + 1)))
