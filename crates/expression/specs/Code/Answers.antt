-- What an answer of the parser says, and what the text means.
use Rattle.std.specs.Prelude.{Result, Ok, Err}
use Rattle.expression.specs.declared.ExprError.{ExprError}
use Rattle.figures.specs.declared.Figures.{Figures}
use Rattle.std.specs.Prelude.{ℕ, ◌≡◌, List, drop}
use Rattle.token.specs.Code.Places.{last_end}
use Rattle.grammar.specs.Code.Meant.{ParseAnswer, figures, refusal, meaning_answer, ShortText}
use Rattle.grammar.specs.Parse.{Env, meaning}
use Rattle.bindings.specs.Code.Table.{Columns, RowsFor, at_most256}
use Rattle.expression.specs.Answer.{expr_error_numbered}

abbrev pub parse_answer : Result Figures ExprError → ParseAnswer
parse_answer (Ok v) = figures v.k v.p v.value v.len
parse_answer (Err e) = refusal (expr_error_numbered e).number

-- a tree is read up to the end of the text's last token
abbrev pub EndsLast : List ℕ → Result Figures ExprError → Type 0
EndsLast s (Ok v) = v.next ≡ last_end s
EndsLast s (Err e) = Unit {0}

-- The answer to the expression starting at an offset of a text is what it means, in every environment that the first bindings of the table tell.
-- Of a table whose bindings tell no environment, since a name isn't inside the text or figures are those of no tree, only `ends` is promised.
pub record Answers (s : List ℕ) (at : ℕ) (c : Columns) (r : Result Figures ExprError) : Type 0 where
  pub is : (env : Env) → RowsFor s c (at_most256 c.count) env → parse_answer r ≡ meaning_answer (meaning env (drop at s))
  pub short : (env : Env) → RowsFor s c (at_most256 c.count) env → ShortText (meaning env (drop at s))
  pub ends : EndsLast s r
