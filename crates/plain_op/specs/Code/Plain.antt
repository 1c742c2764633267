-- The operations that stand in a text.
use Rattle.std.specs.Prelude.{Option, Some, None}
use Rattle.plain_op.specs.declared.PlainOp.{PlainOp}
use Rattle.std.specs.Prelude.{ℕ, suc, ◌+◌, ◌<◌, ◌≡◌, List, [], ◌∷◌, ◌++◌, true, cond, length, drop}
use Rattle.search.specs.First.{prefix_of}
use Rattle.base.specs.Lists.{all}
use Rattle.decimal.specs.Decimal.{digit, number_of}
use Rattle.kinds.specs.Kinds.{kind_of}
use Rattle.mnemonic.specs.Kinds.{follows, line_with}

-- an operation stands from an offset to another: its word, and behind it a space and the digits of its operand where one follows
pub record OperationAt (text : List ℕ) (at k v end : ℕ) : Type 0 where
  pub digits : List ℕ
  pub number : ℕ
  pub below : k < 16
  pub all : all digit digits ≡ true
  pub some : 0 < length digits
  pub is : number_of digits ≡ Some number
  pub operand : v ≡ cond (follows (kind_of k).operand) number 0
  pub stands : drop at text ≡ line_with k digits ++ drop end text
  pub place : end ≡ at + length (line_with k digits)

-- an answer is an operation that stands there
abbrev pub PlainRead : List ℕ → ℕ → Option PlainOp → Type 0
PlainRead text at (Some o) = OperationAt text at o.kind o.operand o.end
PlainRead text at None = Unit

-- the word of a kind with an operand stands at an offset, with a space, and what follows starts at another
pub record WordAt (text : List ℕ) (at k digits : ℕ) : Type 0 where
  pub below : k < 16
  pub followed : follows (kind_of k).operand ≡ true
  pub stands : prefix_of ((kind_of k).word ++ 32 ∷ []) (drop at text) ≡ true
  pub place : digits ≡ at + suc (length (kind_of k).word)
