-- What assembly answers and writes, for a contract, its vector, a stem and the room of the lent buffer.
use Rattle.std.specs.Prelude.{ℕ, List, [], ◌∷◌, ◌++◌, Bool, ◌&&◌, leb, ltb, length}
use Rattle.base.specs.Need.{need}
use Rattle.utf8.specs.Utf8.{utf8}
use Rattle.lines.specs.Lines.{feed_free}
use Rattle.decimal.specs.Decimal.{decimal}
use Rattle.base.specs.Ascii.{ascii}
use Rattle.kinds.specs.Kinds.{Operation}
use Rattle.mnemonic.specs.Written.{written_all}
use Rattle.grammar.specs.Tree.{Tree, k_of, p_of}
use Rattle.grammar.specs.Written.{tree_ops}
use Rattle.numbered.specs.declared.Numbered.{Numbered}
use Rattle.numbered.specs.Numbered.{plain, carrying}
use Rattle.base.specs.Outcome.{Outcome, is, refused}
use Rattle.contract.specs.Assembled.{assembled_tree}

-- not empty, at most 255 bytes, UTF-8, without a line feed
abbrev pub stem_fits : List ℕ → Bool
stem_fits stem = ltb 0 (length stem) && leb (length stem) 255 && utf8 stem && feed_free stem

abbrev pub header : List ℕ → ℕ → List ℕ
header stem expected = ascii "# contract: " ++ stem ++ 10 ∷ ascii "# expected: " ++ decimal expected ++ 10 ∷ []

-- the tree's operations, left side, right side, operator; last `Halt`
abbrev pub operations_of : Tree → List Operation
operations_of t = tree_ops t ++ record { kind = 15; operand = 0 } ∷ []

unfoldable pub output : List ℕ → ℕ → Tree → List ℕ
output stem expected t = header stem expected ++ written_all (operations_of t)

-- the answer's number and values, and what is written at the start of the lent buffer
pub record Assembly : Type 0 where
  pub answer : Numbered
  pub text : List ℕ

abbrev pub nothing : Numbered → Assembly
nothing r = record { answer = r; text = [] }

-- document 01's accepted: the answer is 0, with the bytes written, k, p and the value
abbrev pub written_into : List ℕ → ℕ → Tree → ℕ → Assembly
written_into text expected t room =
    need (leb (length text) room) (nothing (plain 26))
    (record { answer = carrying 0 (length text ∷ k_of t ∷ p_of t ∷ expected ∷ []); text = text })

abbrev pub with_stem : Outcome Numbered (ℕ × Tree) → List ℕ → ℕ → Assembly
with_stem (refused r) stem room = nothing r
with_stem (is (expected, t)) stem room = need (stem_fits stem) (nothing (plain 25)) (written_into (output stem expected t) expected t room)

unfoldable pub assembled : List ℕ → List ℕ → List ℕ → ℕ → Assembly
assembled contract vector stem room = with_stem (assembled_tree contract vector) stem room
