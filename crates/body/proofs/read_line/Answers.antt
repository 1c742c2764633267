-- `body::read_line` meets its contract: by what the line says.
-- Assumes nothing.
use mathlib.Core.Path.{sym, ◌∙◌}
use native.Mathlib.Omega.{arith}
use Rattle.std.proofs.lemmas.Result.{err_from_is_err_and}
use Rattle.body.proofs.Lines.{let-within, return_within, skipped-follows, no_equals_follows, let-refused, let-fits, let-follows, return_refused, return_follows}
use Rattle.body.proofs.LastReturn.{meets_refused, meets_skipped, meets-let, meets_return}
use Rattle.body.proofs.Expressions.{checked_err, checked_ok}
use Rattle.body.proofs.read_line.Goals as goal

pub returns-in-Skipped : goal.returns-in-Skipped
returns-in-Skipped c =
    let a = c.args in
    let y = sym c.in-Skipped.is ∙ c.statement_at.ensures in
    (skipped-follows a.contract.now a.text.start a.text.end c.requires.0 a.state.now a.line y, meets_skipped y)

pub returns-in-NoEquals : goal.returns-in-NoEquals
returns-in-NoEquals c =
    let a = c.args in
    let y = sym c.in-NoEquals.is ∙ c.statement_at.ensures in
    (no_equals_follows a.contract.now a.text.start a.text.end c.requires.0 a.state.now a.line y, meets_refused)

pub check-requires : goal.check-requires
check-requires c =
    let a = c.args in
    (let-within a.contract.now a.text.start a.text.end c.requires.0 (sym c.in-Let.is ∙ c.statement_at.ensures)).within

pub returns-in_err-read-in-Let : goal.returns-in_err-read-in-Let
returns-in_err-read-in-Let c =
    let a = c.args in
    let y = sym c.in-Let.is ∙ c.statement_at.ensures in
    let p = err_from_is_err_and c.from_residual.result c.from_residual.ensures.1 in
    rw (p.1, p.2) (let-refused a.contract.now a.text.start a.text.end c.requires.0 a.state.now a.line y (checked_err c.check.ensures.0 c.in_err-read-in-Let.was), meets_refused)

pub bind-requires : goal.bind-requires
bind-requires c =
    let a = c.args in
    let y = sym c.in-Let.is ∙ c.statement_at.ensures in
    let w = let-within a.contract.now a.text.start a.text.end c.requires.0 y in
    let f = let-fits a.contract.now a.text.start a.text.end c.requires.0 a.state.now a.line y (checked_ok c.check.ensures.0 c.in_ok-read-in-Let.was) c.requires.1 in
    (f.0, (f.1.0, (f.1.1, omega (arith, w.between, w.within.ordered, w.within.inside))))

pub returns-in_ok-read-in-Let : goal.returns-in_ok-read-in-Let
returns-in_ok-read-in-Let c =
    let a = c.args in
    let y = sym c.in-Let.is ∙ c.statement_at.ensures in
    (let-follows a.contract.now a.text.start a.text.end c.requires.0 a.state.now a.line y (checked_ok c.check.ensures.0 c.in_ok-read-in-Let.was) c.bind.ensures, meets-let y c.bind.ensures)

pub check-requires-in-Return : goal.check-requires-in-Return
check-requires-in-Return c =
    let a = c.args in
    return_within a.contract.now a.text.start a.text.end c.requires.0 (sym c.in-Return.is ∙ c.statement_at.ensures)

pub returns-in_err-read-in-Return : goal.returns-in_err-read-in-Return
returns-in_err-read-in-Return c =
    let a = c.args in
    let y = sym c.in-Return.is ∙ c.statement_at.ensures in
    let p = err_from_is_err_and c.from_residual-in_err-read-in-Return.result c.from_residual-in_err-read-in-Return.ensures.1 in
    rw (p.1, p.2) (return_refused a.contract.now a.text.start a.text.end c.requires.0 a.state.now a.line y (checked_err c.check-in-Return.ensures.0 c.in_err-read-in-Return.was), meets_refused)

pub returns-in_ok-read-in-Return : goal.returns-in_ok-read-in-Return
returns-in_ok-read-in-Return c =
    let a = c.args in
    let y = sym c.in-Return.is ∙ c.statement_at.ensures in (
      return_follows a.contract.now a.text.start a.text.end c.requires.0 a.state.now a.line y (checked_ok c.check-in-Return.ensures.0 c.in_ok-read-in-Return.was),
      meets_return y c.check-in-Return.ensures.1 c.in_ok-read-in-Return.was,
    )
