-- `body::check` meets its contract: by what the parser answers, and by k.
-- Assumes nothing.
use borrow.Author.Rules.{rules}
use Rattle.std.proofs.lemmas.Result.{err_from_is_err_and}
use Rattle.body.proofs.Expressions.{mapped, answers_done, check_refused, check_long, check_done}
use Rattle.body.proofs.check.Goals as goal

pub returns-in_err-read : goal.returns-in_err-read
returns-in_err-read c =
    let a = c.args in
    let p = err_from_is_err_and c.from_residual.result c.from_residual.ensures.1 in
    rw (p.1, p.2) (check_refused a.contract.now a.expr.start a.expr.end c.requires _ a.line c.parse.ensures (mapped a.line (λ e d q. search rules) c.parse.result c.map_err.ensures.cases) c.in_err-read.was, tt)

pub returns-then-read-gt-MAX_K : goal.returns-then-read-gt-MAX_K
returns-then-read-gt-MAX_K c =
    let a = c.args in
    (check_long a.contract.now a.expr.start a.expr.end c.requires _ a.line c.parse.ensures (mapped a.line (λ e d q. search rules) c.parse.result c.map_err.ensures.cases) c.in_ok-read.was c.if-read-gt-MAX_K.true, tt)

pub returns : goal.returns
returns c =
    let a = c.args in
    let m = mapped a.line (λ e d q. search rules) c.parse.result c.map_err.ensures.cases in (
      check_done a.contract.now a.expr.start a.expr.end c.requires _ a.line c.parse.ensures m c.in_ok-read.was c.if-read-gt-MAX_K.false,
      (answers_done a.contract.now a.expr.start a.expr.end c.requires _ a.line c.parse.ensures m c.in_ok-read.was).ends,
    )
