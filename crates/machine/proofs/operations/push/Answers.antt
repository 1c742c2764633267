-- `operations::push` meets its contract: room is left on the stack, or not.
use Rattle.std.proofs.Common.{◌+◌, ◌<◌, ◌≤◌, length, arith, le-ltb, lt-ltb}
use Rattle.base.proofs.Stack.{length_stack, stack_push}
use Rattle.machine.specs.declared.Refusal.TheVariants.{StackLimitExceeded}
use Rattle.machine.proofs.Effects.{fails_by, moves_by}
use Rattle.machine.proofs.operations.push.Goals as goal
use Rattle.machine.proofs.operations.push.Goals.{After-stop}

-- the stack is full where push stops
full : (c : After-stop) → 4096 ≤ c.args.r.items
full c = omega arith

pub returns-then-n-ge-MAX_STACK_ITEMS : goal.returns-then-n-ge-MAX_STACK_ITEMS
returns-then-n-ge-MAX_STACK_ITEMS c =
    λ w h. fails_by StackLimitExceeded c.stop.ensures (omega arith) (omega arith) h (simp (length_stack, le-ltb _ _ (full (goal.at.returns-then-n-ge-MAX_STACK_ITEMS c).After-stop)))

pub returns : goal.returns
returns c =
    let a = c.args in
    let n : a.r.items < length a.stack.now = omega arith in
    λ w h.
    moves_by (a.r.items + 1) a.r.used c.go_on.ensures (omega arith) (omega arith) h
    (simp (length_stack, lt-ltb a.r.items 4096 (omega arith), stack_push))
