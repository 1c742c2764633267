-- `operations::binop` meets its contract: too few items, no value, and the value in the place of two items.
use Rattle.std.proofs.Common.{ℕ, ◌-◌, ◌≤◌, List, length, take, refl, arith, sym, ◌∙◌}
use Rattle.word.specs.Code.Operator.{binary_of}
use Rattle.machine.specs.Machine.{binop_of}
use Rattle.machine.proofs.Stack.{below_two, stack_two, stack_put}
use Rattle.machine.specs.declared.Refusal.TheVariants.{DivisionByZero, StackUnderflow}
use Rattle.machine.proofs.Effects.{fails_by, moves_by}
use Rattle.machine.proofs.operations.binop.Goals as goal

pub returns-then-n-lt2 : goal.returns-then-n-lt2
returns-then-n-lt2 c =
    let a = c.args in
    λ w h.
    fails_by StackUnderflow c.stop.ensures (omega arith) (omega arith) h
    (below_two (λ (s : List ℕ). binop_of (binary_of a.operator) s (take a.r.used w)) a.stack.now a.r.items c.if-n-lt2.true (λ b. refl))

pub returns-in-None : goal.returns-in-None
returns-in-None c =
    let a = c.args in
    λ w h.
    fails_by DivisionByZero c.stop-in-None.ensures (omega arith) (omega arith) h
    (rw (stack_two a.stack.now a.r.items c.if-n-lt2.false, sym c.apply.ensures ∙ c.in-None.is))

pub returns-in-Some : goal.returns-in-Some
returns-in-Some c =
    let a = c.args in
    let h : 2 ≤ a.r.items = c.if-n-lt2.false in
    let k : a.r.items ≤ length a.stack.now = omega arith in
    λ w u.
    moves_by (a.r.items - 1) a.r.used c.go_on.ensures (omega arith) (omega arith) u
    (rw (stack_two a.stack.now a.r.items h, sym c.apply.ensures ∙ c.in-Some.is, stack_put))
