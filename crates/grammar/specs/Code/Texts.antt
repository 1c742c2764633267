-- The text that a tree is written as.
use Rattle.std.specs.Prelude.{ℕ, List}
use Rattle.mnemonic.specs.Written.{written_all}
use Rattle.grammar.specs.Tree.{Tree}
use Rattle.grammar.specs.Written.{tree_ops}

abbrev pub text_of : Tree → List ℕ
text_of t = written_all (tree_ops t)
