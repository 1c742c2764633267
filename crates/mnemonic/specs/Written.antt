-- Operations as text, one to a line: the word, a space and the plain decimal where an operand follows, a line feed.
use Rattle.std.specs.Prelude.{ℕ, ◌^◌, ◌<◌, ◌≡◌, List, [], ◌∷◌, ◌++◌, true, cond}
use Rattle.utf8.specs.Utf8.{utf8}
use Rattle.lines.specs.Lines.{feed_free}
use Rattle.decimal.specs.Decimal.{decimal}
use Rattle.kinds.specs.Kinds.{kind_of, Operation, operation}
use Rattle.mnemonic.specs.Kinds.{follows, line_with}

-- an operation's line without the line feed
abbrev pub shown : Operation → List ℕ
shown o = line_with o.kind (decimal o.operand)

abbrev pub written : Operation → List ℕ
written o = shown o ++ 10 ∷ []

abbrev pub written_all : List Operation → List ℕ
written_all [] = []
written_all (o ∷ os) = written o ++ written_all os

-- lines of remarks
abbrev pub remark : List ℕ → List ℕ
remark x = (35 ∷ x) ++ 10 ∷ []

abbrev pub remarks : List (List ℕ) → List ℕ
remarks [] = []
remarks (x ∷ xs) = remark x ++ remarks xs

-- with an operand that is not used as 0
abbrev pub cleared : Operation → Operation
cleared o = operation o.kind (cond (follows (kind_of o.kind).operand) o.operand 0)

-- what can be written
pub record IsOperation (o : Operation) : Type 0 where
  pub kind : o.kind < 16
  pub operand : o.operand < 2 ^ 64

-- what is read: it can be written, and an operand that is not used is 0
pub record IsRead (o : Operation) : Type 0 where
  pub is : IsOperation o
  pub unused : cleared o ≡ o

pub record IsRemark (x : List ℕ) : Type 0 where
  pub valid : utf8 x ≡ true
  pub one_line : feed_free x ≡ true

pub data Each {A : Type 0} (P : A → Type 0) : List A → Type 0 where
  none : Each P []
  one : {a : A} {l : List A} → P a → Each P l → Each P (a ∷ l)
