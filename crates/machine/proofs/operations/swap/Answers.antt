-- `operations::swap` meets its contract: the two top items change places.
use Rattle.std.proofs.Common.{ℕ, ◌-◌, ◌≤◌, List, length, get_or, take, refl, arith}
use Rattle.machine.specs.Machine.{swap_of}
use Rattle.machine.proofs.Stack.{below_two, stack_two, stack_swap}
use Rattle.machine.specs.declared.Refusal.TheVariants.{StackUnderflow}
use Rattle.machine.proofs.Effects.{fails_by, moves_by}
use Rattle.machine.proofs.operations.swap.Goals as goal

pub returns-then-n-lt2 : goal.returns-then-n-lt2
returns-then-n-lt2 c =
    let a = c.args in
    λ w h.
    fails_by StackUnderflow c.stop.ensures (omega arith) (omega arith) h
    (below_two (λ (s : List ℕ). swap_of s (take a.r.used w)) a.stack.now a.r.items c.if-n-lt2.true (λ b. refl))

pub returns : goal.returns
returns c =
    let a = c.args in
    let n = a.r.items in
    let s = a.stack.now in
    let h : 2 ≤ n = c.if-n-lt2.false in
    let k : n ≤ length s = omega arith in
    λ w u.
    moves_by n a.r.used c.go_on.ensures (omega arith) (omega arith) u
    (rw (stack_swap s n (get_or s (n - 2) 0) (get_or s (n - 1) 0) h k, stack_two s n h))
