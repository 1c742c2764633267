-- `Waiting::newest` meets its contract: nothing, a mark or an operator.
use native.Mathlib.Omega.{arith}
use mathlib.Core.Path.{◌≡◌, ap, ◌∙◌}
use lib.Dec.{leb}
use Rattle.std.specs.Prelude.{◌-◌, None, Some, get_or}
use Rattle.expression.specs.declared.parts.Level.{Level}
use Rattle.expression.specs.Code.Parts.{level_number}
use Rattle.emission.proofs.Signs.{number_low, le_is}
use Rattle.emission.proofs.WaitingLoop.{newest_empty, newest_mark, newest_operator}
use Rattle.emission.proofs.waiting.Waiting.newest.Goals as goal

pub returns-then-self-eq0 : goal.returns-then-self-eq0
returns-then-self-eq0 c = newest_empty c.args.self.now _ c.requires c.if-self-eq0.true

pub returns-in_err-operator : goal.returns-in_err-operator
returns-in_err-operator c =
    let w = c.args.self.now in
    let e : get_or w.operators (w.count - 1) None ≡ None = grind arith in
    rw c.from_residual.ensures (newest_mark w _ c.requires c.if-self-eq0.false (number_low c.args.level) e)

pub returns : goal.returns
returns c =
    let w = c.args.self.now in
    let op = c.in_ok-operator.operator in
    let e : get_or w.operators (w.count - 1) None ≡ Some op = grind arith in
    let l = c.le.ensures ∙ le_is _ _ ∙ ap (λ (l : Level). leb (level_number l) (level_number c.args.level)) c.level_of.ensures in
    rw c.then_some.ensures (newest_operator w _ c.requires c.if-self-eq0.false op e c.le.result l)
