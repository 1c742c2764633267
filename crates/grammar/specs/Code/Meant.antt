-- What a text means, in numbers.
use Rattle.std.specs.Prelude.{ℕ, ◌+◌, ◌*◌, ◌≤◌}
use Rattle.std.specs.Prelude.{Option}
use Rattle.numbered.specs.declared.Numbered.{Numbered}
use Rattle.base.specs.Outcome.{Outcome, is, refused}
use Rattle.grammar.specs.Tree.{Tree, value_of, k_of, p_of}
use Rattle.grammar.specs.Code.Lengths.{len_of}

-- k, p, the value, the length of the text
pub data ParseAnswer : Type 0 where
  figures : ℕ → ℕ → Option ℕ → ℕ → ParseAnswer
  refusal : ℕ → ParseAnswer

abbrev pub meaning_answer : Outcome Numbered Tree → ParseAnswer
meaning_answer (is t) = figures (k_of t) (p_of t) (value_of t) (len_of t)
meaning_answer (refused r) = refusal r.number

-- a tree's text is short: a line has at most 26 bytes, and an operator's at most 4
abbrev pub ShortText : Outcome Numbered Tree → Type 0
ShortText (is t) = len_of t + 4 ≤ 30 * k_of t
ShortText (refused r) = Unit {0}
