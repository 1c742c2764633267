-- The operations that a tree is written as, and their text: left side, right side, operator.
use Rattle.std.specs.Prelude.{ℕ, List, [], ◌∷◌, ◌++◌}
use Rattle.word.specs.Apply.{Binary, add, sub, mul, div, eq, lt}
use Rattle.kinds.specs.Kinds.{Operation, operation}
use Rattle.grammar.specs.Tree.{Tree, num, bin}

-- the number of an operator's kind; Push is 0
abbrev pub kind_number : Binary → ℕ
kind_number add = 1
kind_number sub = 2
kind_number mul = 3
kind_number div = 4
kind_number eq = 9
kind_number lt = 10

abbrev pub tree_ops : Tree → List Operation
tree_ops (num n) = operation 0 n ∷ []
tree_ops (bin op l r) = tree_ops l ++ tree_ops r ++ operation (kind_number op) 0 ∷ []
