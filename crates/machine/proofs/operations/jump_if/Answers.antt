-- `operations::jump_if` meets its contract: no item, and the test of the top item.
use Rattle.std.proofs.Common.{ℕ, ◌-◌, List, get_or, take, arith, sym, ◌∙◌}
use Rattle.machine.specs.Machine.{jump_if_of}
use Rattle.machine.proofs.Stack.{no_item}
use Rattle.base.proofs.Stack.{stack_pop}
use Rattle.machine.specs.declared.Refusal.TheVariants.{StackUnderflow}
use Rattle.machine.proofs.Effects.{fails_by, moves_by, jumps_by}
use Rattle.machine.proofs.operations.jump_if.Goals as goal

pub returns-then-n-lt1 : goal.returns-then-n-lt1
returns-then-n-lt1 g c =
    let a = c.args in
    λ p says w h.
    fails_by StackUnderflow c.stop.ensures (omega arith) (omega arith) h
    (no_item (λ (s : List ℕ). jump_if_of p a.t s (take a.r.used w)) a.stack.now a.r.items c.if-n-lt1.true)

pub returns-then-test : goal.returns-then-test
returns-then-test g c =
    let a = c.args in
    λ p says w h.
    jumps_by a.t (a.r.items - 1) a.r.used c.go_on.ensures (omega arith) (omega arith) h
    (rw (stack_pop a.stack.now a.r.items c.if-n-lt1.false, sym (says (get_or a.stack.now (a.r.items - 1) 0) _ c.test.ensures) ∙ c.if-test.true))

pub returns : goal.returns
returns g c =
    let a = c.args in
    λ p says w h.
    moves_by (a.r.items - 1) a.r.used c.go_on-2.ensures (omega arith) (omega arith) h
    (rw (stack_pop a.stack.now a.r.items c.if-n-lt1.false, sym (says (get_or a.stack.now (a.r.items - 1) 0) _ c.test.ensures) ∙ c.if-test.false))
