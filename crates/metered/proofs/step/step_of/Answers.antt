-- `step::step_of` meets its contract: the price is met or not, and each operation by its own function.
use Prim.Native.Nat.{ℕ, ◌+◌, ◌≤◌}
use mathlib.Core.Path.{◌≡◌}
use mathlib.Core.List.{List}
use mathlib.Core.Logic.{inl, inr}
use native.Mathlib.Omega.{arith}
use lib.ListN.{length}
use Rattle.machine.specs.declared.Regs.{Regs}
use Rattle.kinds.specs.Kinds.{operation, kind_of}
use Rattle.machine.specs.Machine.{effect_of}
use Rattle.machine.specs.Code.Registers.{CanStep, RefinesEffect, RefinesStep}
use Rattle.metered.proofs.StepArms.{ready, arm, out_of_gas_lem, ends_by}
use Rattle.metered.proofs.step.step_of.Given.{Over}
use Rattle.metered.proofs.step.step_of.Goals as goal
use Rattle.metered.proofs.step.step_of.Goals.{After-pay-q}

ready_here : {g : Over} (c : After-pay-q g) → CanStep c.pay-q.result (length c.args.stack.now)
ready_here c = ready c.gas_cost-p.result c.pay-q.ensures c.requires.running c.requires.pos_bound

used_here : {g : Over} (c : After-pay-q g) → c.pay-q.result.used ≤ length c.args.work.now
used_here c = rw c.pay-q.ensures c.requires.running.held.used

module _ {g : Over} (c : After-pay-q g) (k : ℕ) {q : Regs} {s' w' : List ℕ} where
  next_arm : g.row.KIND ≡ k → 1 ≤ (kind_of k).price
      → RefinesEffect (c.pay-q.result.pos + 1) (effect_of c.args.caller (length c.args.work.now) (operation k c.args.operand)) c.pay-q.result q c.args.stack.now c.args.work.now s' w'
      → RefinesStep c.args.caller (operation g.row.KIND c.args.operand) c.args.r q c.args.stack.now c.args.work.now s' w'
  next_arm e one did =
      let a = c.args in
      arm k (c.pay-q.result.pos + 1) c.gas_cost-p.result a.caller g.row.KIND a.operand e c.pay-q.ensures c.gas_cost-p.ensures c.if-g-p.false one (inl (omega arith)) c.requires.running did

  jump_arm : g.row.KIND ≡ k → 2 ≤ (kind_of k).price
      → RefinesEffect 0 (effect_of c.args.caller (length c.args.work.now) (operation k c.args.operand)) c.pay-q.result q c.args.stack.now c.args.work.now s' w'
      → RefinesStep c.args.caller (operation g.row.KIND c.args.operand) c.args.r q c.args.stack.now c.args.work.now s' w'
  jump_arm e two did =
      let a = c.args in
      arm k 0 c.gas_cost-p.result a.caller g.row.KIND a.operand e c.pay-q.ensures c.gas_cost-p.ensures c.if-g-p.false (omega arith) (inr two) c.requires.running did

pub returns-then-g-p : goal.returns-then-g-p
returns-then-g-p g c =
    let a = c.args in
    out_of_gas_lem c.stop.ensures c.gas_cost-p.ensures c.if-g-p.true c.requires.running

pub pay-q-requires : goal.pay-q-requires
pay-q-requires g c = c.if-g-p.false

pub push-requires : goal.push-requires
push-requires g c = ready_here (goal.at.push-requires g c).After-pay-q

pub binop-requires : goal.binop-requires
binop-requires g c = ready_here (goal.at.binop-requires g c).After-pay-q

pub binop-requires-in-2 : goal.binop-requires-in-2
binop-requires-in-2 g c = ready_here (goal.at.binop-requires-in-2 g c).After-pay-q

pub binop-requires-in-3 : goal.binop-requires-in-3
binop-requires-in-3 g c = ready_here (goal.at.binop-requires-in-3 g c).After-pay-q

pub binop-requires-in-4 : goal.binop-requires-in-4
binop-requires-in-4 g c = ready_here (goal.at.binop-requires-in-4 g c).After-pay-q

pub dup-requires : goal.dup-requires
dup-requires g c = ready_here (goal.at.dup-requires g c).After-pay-q

pub swap-requires : goal.swap-requires
swap-requires g c = ready_here (goal.at.swap-requires g c).After-pay-q

pub jump-requires : goal.jump-requires
jump-requires g c = let h = ready_here (goal.at.jump-requires g c).After-pay-q in record { ops_bound = h.ops; items_bound = h.items }

pub jump_if_not_zero-requires : goal.jump_if_not_zero-requires
jump_if_not_zero-requires g c = ready_here (goal.at.jump_if_not_zero-requires g c).After-pay-q

pub binop-requires-in-9 : goal.binop-requires-in-9
binop-requires-in-9 g c = ready_here (goal.at.binop-requires-in-9 g c).After-pay-q

pub binop-requires-in-10 : goal.binop-requires-in-10
binop-requires-in-10 g c = ready_here (goal.at.binop-requires-in-10 g c).After-pay-q

pub load-requires : goal.load-requires
load-requires g c = record { can_step = ready_here (goal.at.load-requires g c).After-pay-q; used_in_bounds = used_here (goal.at.load-requires g c).After-pay-q }

pub store-requires : goal.store-requires
store-requires g c = record { can_step = ready_here (goal.at.store-requires g c).After-pay-q; used_in_bounds = used_here (goal.at.store-requires g c).After-pay-q }

pub push-requires-in-13 : goal.push-requires-in-13
push-requires-in-13 g c = ready_here (goal.at.push-requires-in-13 g c).After-pay-q

pub jump_if_zero-requires : goal.jump_if_zero-requires
jump_if_zero-requires g c = ready_here (goal.at.jump_if_zero-requires g c).After-pay-q

pub overflow_add-q : goal.overflow_add-q
overflow_add-q g c = rw c.pay-q.ensures (omega arith)

pub returns-in-0 : goal.returns-in-0
returns-in-0 g c = next_arm (goal.at.returns-in-0 g c).After-pay-q 0 c.in-0.is (omega arith) (c.push.ensures _ (used_here (goal.at.returns-in-0 g c).After-pay-q))

pub returns-in-1 : goal.returns-in-1
returns-in-1 g c = next_arm (goal.at.returns-in-1 g c).After-pay-q 1 c.in-1.is (omega arith) (c.binop.ensures _ (used_here (goal.at.returns-in-1 g c).After-pay-q))

pub returns-in-2 : goal.returns-in-2
returns-in-2 g c = next_arm (goal.at.returns-in-2 g c).After-pay-q 2 c.in-2.is (omega arith) (c.binop-in-2.ensures _ (used_here (goal.at.returns-in-2 g c).After-pay-q))

pub returns-in-3 : goal.returns-in-3
returns-in-3 g c = next_arm (goal.at.returns-in-3 g c).After-pay-q 3 c.in-3.is (omega arith) (c.binop-in-3.ensures _ (used_here (goal.at.returns-in-3 g c).After-pay-q))

pub returns-in-4 : goal.returns-in-4
returns-in-4 g c = next_arm (goal.at.returns-in-4 g c).After-pay-q 4 c.in-4.is (omega arith) (c.binop-in-4.ensures _ (used_here (goal.at.returns-in-4 g c).After-pay-q))

pub returns-in-5 : goal.returns-in-5
returns-in-5 g c = next_arm (goal.at.returns-in-5 g c).After-pay-q 5 c.in-5.is (omega arith) (c.dup.ensures _ (used_here (goal.at.returns-in-5 g c).After-pay-q))

pub returns-in-6 : goal.returns-in-6
returns-in-6 g c = next_arm (goal.at.returns-in-6 g c).After-pay-q 6 c.in-6.is (omega arith) (c.swap.ensures _ (used_here (goal.at.returns-in-6 g c).After-pay-q))

pub returns-in-7 : goal.returns-in-7
returns-in-7 g c = jump_arm (goal.at.returns-in-7 g c).After-pay-q 7 c.in-7.is (omega arith) (c.jump.ensures _ _ (used_here (goal.at.returns-in-7 g c).After-pay-q))

pub returns-in-8 : goal.returns-in-8
returns-in-8 g c = jump_arm (goal.at.returns-in-8 g c).After-pay-q 8 c.in-8.is (omega arith) (c.jump_if_not_zero.ensures _ (used_here (goal.at.returns-in-8 g c).After-pay-q))

pub returns-in-9 : goal.returns-in-9
returns-in-9 g c = next_arm (goal.at.returns-in-9 g c).After-pay-q 9 c.in-9.is (omega arith) (c.binop-in-9.ensures _ (used_here (goal.at.returns-in-9 g c).After-pay-q))

pub returns-in-10 : goal.returns-in-10
returns-in-10 g c = next_arm (goal.at.returns-in-10 g c).After-pay-q 10 c.in-10.is (omega arith) (c.binop-in-10.ensures _ (used_here (goal.at.returns-in-10 g c).After-pay-q))

pub returns-in-11 : goal.returns-in-11
returns-in-11 g c = next_arm (goal.at.returns-in-11 g c).After-pay-q 11 c.in-11.is (omega arith) c.load.ensures

pub returns-in-12 : goal.returns-in-12
returns-in-12 g c = next_arm (goal.at.returns-in-12 g c).After-pay-q 12 c.in-12.is (omega arith) c.store.ensures

pub returns-in-13 : goal.returns-in-13
returns-in-13 g c = next_arm (goal.at.returns-in-13 g c).After-pay-q 13 c.in-13.is (omega arith) (c.push-in-13.ensures _ (used_here (goal.at.returns-in-13 g c).After-pay-q))

pub returns-in-14 : goal.returns-in-14
returns-in-14 g c = jump_arm (goal.at.returns-in-14 g c).After-pay-q 14 c.in-14.is (omega arith) (c.jump_if_zero.ensures _ (used_here (goal.at.returns-in-14 g c).After-pay-q))

pub returns-in_default : goal.returns-in_default
returns-in_default g c =
    let a = c.args in
    let h : 15 ≤ g.row.KIND = omega arith in
    ends_by g.row.KIND a.operand h c.end.ensures c.pay-q.ensures c.gas_cost-p.ensures c.if-g-p.false c.requires.running
