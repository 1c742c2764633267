-- `operations::dup` meets its contract: it pushes the top item again.
use Rattle.std.proofs.Common.{ℕ, List, take, arith}
use Rattle.machine.specs.Machine.{dup_of}
use Rattle.base.proofs.Stack.{stack_pop}
use Rattle.machine.proofs.Stack.{no_item}
use Rattle.machine.specs.declared.Refusal.TheVariants.{StackUnderflow}
use Rattle.machine.proofs.Effects.{fails_by}
use Rattle.machine.proofs.operations.dup.Goals as goal

pub returns-then-n-lt1 : goal.returns-then-n-lt1
returns-then-n-lt1 c =
    let a = c.args in
    λ w h.
    fails_by StackUnderflow c.stop.ensures (omega arith) (omega arith) h
    (no_item (λ (s : List ℕ). dup_of s (take a.r.used w)) a.stack.now a.r.items c.if-n-lt1.true)

pub returns : goal.returns
returns c =
    let a = c.args in
    let e = stack_pop a.stack.now a.r.items c.if-n-lt1.false in
    λ w h. let d = c.push.ensures w h in record { progress = rw e (rw e at d.progress); kept = d.kept }
