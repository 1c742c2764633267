-- `expression::parts::sign_at` meets its contract: the token at a place is the first of the list.
use Rattle.std.proofs.Common.{◌≡◌, sym, ap, ◌∙◌, arith}
use Rattle.std.specs.Prelude.{Some, None}
use Rattle.token.proofs.Tokens.{token_next}
use Rattle.expression.specs.Code.Parts.{placed}
use Rattle.expression.proofs.Signs.{sign_placed}
use Rattle.expression.proofs.parts.sign_at.Goals as goal

pub slice_bounds-sign_of-end : goal.slice_bounds-sign_of-end
slice_bounds-sign_of-end c =
    let a = c.args in
    let e : c.token_at.result ≡ Some c.in_ok-token.token = grind arith in
    let n = token_next a.text.now a.at (sym c.token_at.ensures ∙ e) in
    omega (arith, n.some, n.inside)

pub returns-in_err-sign : goal.returns-in_err-sign
returns-in_err-sign c =
    let a = c.args in
    let e : c.token_at.result ≡ Some c.in_ok-token.token = grind arith in
    let f : c.sign_of.result ≡ None = grind arith in
    let g : c.from_residual-in_err-sign.result ≡ None = grind arith in
    g ∙ sym (sign_placed a.text.now a.at (sym c.token_at.ensures ∙ e) ∙ ap (placed c.in_ok-token.token.end) (sym c.sign_of.ensures ∙ f))

pub returns : goal.returns
returns c =
    let a = c.args in
    let e : c.token_at.result ≡ Some c.in_ok-token.token = grind arith in
    let f : c.sign_of.result ≡ Some c.in_ok-sign.sign = grind arith in
    sym (sign_placed a.text.now a.at (sym c.token_at.ensures ∙ e) ∙ ap (placed c.in_ok-token.token.end) (sym c.sign_of.ensures ∙ f))
