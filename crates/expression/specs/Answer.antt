-- What an answer of the parser says: document 01's number of a refusal, or the figures of the tree that is read.
use Rattle.numbered.specs.declared.Numbered.{Numbered}
use Rattle.numbered.specs.Numbered.{plain}
use Rattle.expression.specs.declared.ExprError.{ExprError}
use Rattle.expression.specs.declared.ExprError.TheVariants.{InvalidCharacter, UnexpectedEnd, UnbalancedParenthesis, InvalidLiteral, UnknownIdentifier, TooDeep, UnconsumedTokens}

-- document 01's number of each refusal; the line is the caller's to add
abbrev pub expr_error_numbered : ExprError → Numbered
expr_error_numbered InvalidCharacter = plain 13
expr_error_numbered UnexpectedEnd = plain 14
expr_error_numbered UnbalancedParenthesis = plain 15
expr_error_numbered InvalidLiteral = plain 16
expr_error_numbered UnknownIdentifier = plain 17
expr_error_numbered TooDeep = plain 18
expr_error_numbered UnconsumedTokens = plain 19
