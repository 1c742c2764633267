-- `expression::operands::close` meets its contract: the token at a place is the first of the list.
use Rattle.std.proofs.Common.{◌≡◌, sym, ◌∙◌, arith}
use Rattle.std.specs.Prelude.{Some}
use Rattle.token.proofs.Tokens.{token_next}
use Rattle.expression.proofs.operands.close.Goals as goal

pub slice_bounds-sign_of-end : goal.slice_bounds-sign_of-end
slice_bounds-sign_of-end c =
    let a = c.args in
    let e : c.token_at.result ≡ Some c.in_ok-token.token = grind arith in
    let n = token_next a.text.now a.inner.next (sym c.token_at.ensures ∙ e) in
    omega (arith, n.some, n.inside)
