-- `expression::factors::factor_of` meets its contract: digits are no parenthesis.
use mathlib.Core.Path.{◌≡◌, sym, ap, ◌∙◌}
use mathlib.Core.Bool.{true}
use borrow.Author.Tests.{ne_eqb}
use Rattle.base.specs.Lists.{all}
use Rattle.base.proofs.Lists.{take_while_all}
use Rattle.std.proofs.Common.{rules, ℕ, List}
use Rattle.std.specs.Prelude.{ok_or, option_map}
use Rattle.expression.specs.declared.ExprError.TheVariants.{InvalidLiteral}
use Rattle.decimal.specs.Decimal.{digit, value}
use Rattle.decimal.specs.declared.Digits.{Digits}
use Rattle.decimal.specs.Code.Digits.{capped}
use Rattle.expression.specs.declared.factors.Factor.TheVariants.{Literal}
use Rattle.grammar.specs.Parse.{symbol}
use Rattle.grammar.proofs.Grammar.{digits_no_parenthesis}
use Rattle.expression.proofs.factors.factor_of.Goals as goal

pub returns-in-len1-up : goal.returns-in-len1-up
returns-in-len1-up c =
    let w = c.args.token.now in
    let a : all digit w ≡ true = c.requires.digits ∙ sym c.is_digit.ensures ∙ c.if-is_digit.true in
    let t = take_while_all digit w a in
    let n = ne_eqb (symbol w) 40 (digits_no_parenthesis w a) in
    let m : c.map.result ≡ option_map Literal c.digits_at.result.value = search rules in
    let r : c.ok_or.result ≡ ok_or c.map.result InvalidLiteral = search rules in
    rw (n, a) (r ∙ ap (λ x. ok_or x InvalidLiteral) (m ∙ ap (option_map Literal) (ap (λ (d : Digits). d.value) c.digits_at.ensures ∙ ap (λ (l : List ℕ). capped (value l)) t)))
