-- The lines that an expression is written as.
use Rattle.std.specs.Prelude.{ℕ, List, [], ◌∷◌, ◌++◌}
use Rattle.kinds.specs.Kinds.{operation}
use Rattle.mnemonic.specs.Written.{written}
use Rattle.grammar.specs.Parse.{operator}
use Rattle.grammar.specs.Code.Operator.{operator_of}

abbrev pub push_text : ℕ → List ℕ
push_text n = written (operation 0 n)

-- the operator that a sign means
abbrev pub operator_text : ℕ → List ℕ
operator_text sign = written (operator_of (operator sign))

abbrev pub operators_text : List ℕ → List ℕ
operators_text [] = []
operators_text (sign ∷ signs) = operator_text sign ++ operators_text signs
