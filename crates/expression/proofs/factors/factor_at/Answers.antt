-- `expression::factors::factor_at` meets its contract: the factor at a place is that of the token there.
use mathlib.Core.Path.{◌≡◌, sym, ap, ◌∙◌}
use native.Mathlib.Omega.{arith}
use Rattle.std.proofs.lemmas.Result.{err_from_is_err_and}
use Rattle.std.specs.Prelude.{Some}
use Rattle.token.proofs.Tokens.{token_next}
use Rattle.expression.specs.Code.Factor.{ending}
use Rattle.expression.proofs.FirstToken.{token_digits, factor_placed}
use Rattle.expression.proofs.factors.factor_at.Goals as goal

pub slice_bounds-factor_of-end : goal.slice_bounds-factor_of-end
slice_bounds-factor_of-end c =
    let e : c.token_at.result ≡ Some c.in_ok-token.token = grind arith in
    let n = token_next c.args.text.now c.args.at (sym c.token_at.ensures ∙ e) in
    omega (arith, n.some, n.inside)

pub factor_of-requires-clause-digits : goal.factor_of-requires-clause-digits
factor_of-requires-clause-digits c =
    let e : c.token_at.result ≡ Some c.in_ok-token.token = grind arith in
    token_digits c.args.text.now c.args.at (sym c.token_at.ensures ∙ e)

pub returns-in_err-factor : goal.returns-in_err-factor
returns-in_err-factor c =
    let a = c.args in
    let k = a.known in
    let e : c.token_at.result ≡ Some c.in_ok-token.token = grind arith in
    let p = err_from_is_err_and c.from_residual-in_err-factor.result c.from_residual-in_err-factor.ensures.1 in
    rw (p.1, p.2) (sym (factor_placed k.text.now a.text.now a.at k.count k.table.now.name_start k.table.now.name_len k.values.now.tag (sym c.token_at.ensures ∙ e) ∙ ap (ending c.in_ok-token.token.end) (sym c.in_err-factor.ensures)))

pub returns : goal.returns
returns c =
    let a = c.args in
    let k = a.known in
    let e : c.token_at.result ≡ Some c.in_ok-token.token = grind arith in
    sym (factor_placed k.text.now a.text.now a.at k.count k.table.now.name_start k.table.now.name_len k.values.now.tag (sym c.token_at.ensures ∙ e) ∙ ap (ending c.in_ok-token.token.end) (sym c.in_ok-factor.ensures))
