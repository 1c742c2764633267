-- `expression::parse` meets its contract: what the cycle reads is what the text means, in each environment that the table holds.
use Rattle.std.proofs.lemmas.Result.{err_from_is_err_and}
use Rattle.std.specs.Prelude.{Result}
use Rattle.expression.specs.declared.ExprError.{ExprError}
use Rattle.figures.specs.declared.Figures.{Figures}
use mathlib.Core.Path.{refl, sym, subst, ◌∙◌}
use Rattle.bindings.specs.Code.Table.{columns}
use Rattle.expression.specs.Code.Answers.{Answers}
use Rattle.expression.proofs.Reading.{carry}
use Rattle.expression.proofs.Meaning.{not_allowed, refused_answers, done_answers}
use Rattle.expression.proofs.parse.Goals as goal

pub returns-then-not-is_all_tokens : goal.returns-then-not-is_all_tokens
returns-then-not-is_all_tokens c = let a = c.args in not_allowed a.text.now a.at _ (sym c.is_all_tokens.ensures ∙ c.if-not-is_all_tokens.true)

pub returns-in_err-expression : goal.returns-in_err-expression
returns-in_err-expression c =
    let a = c.args in
    let p = err_from_is_err_and c.from_residual.result c.from_residual.ensures.1 in rw (p.1, p.2) (refused_answers a.text.now a.at (columns a.table a.values) _ c.min.ensures (sym c.is_all_tokens.ensures ∙ c.if-not-is_all_tokens.false) (carry c.in_err-expression.was c.expression.ensures))

pub returns : goal.returns
returns c =
    let a = c.args in
    let m = done_answers a.text.now a.at (columns a.table a.values) _ c.min.ensures (sym c.is_all_tokens.ensures ∙ c.if-not-is_all_tokens.false) _ refl (carry c.in_ok-expression.was c.expression.ensures) in
    subst (λ (r : Result Figures ExprError). Answers a.text.now a.at (columns a.table a.values) r) (sym c.whole.ensures) m
