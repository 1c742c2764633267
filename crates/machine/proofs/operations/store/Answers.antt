-- `operations::store` meets its contract: the pop, the two refusals, and a store within the used slots or past them.
use Rattle.std.proofs.Common.{rules, ℕ, ◌+◌, ◌-◌, List, length, get_or, take, arith, le-ltb, lt-ltb}
use Rattle.machine.specs.Machine.{store_of}
use Rattle.base.proofs.Stack.{stack_pop}
use Rattle.machine.proofs.Stack.{no_item}
use Rattle.machine.proofs.Storage.{filled, store_in, store_past}
use Rattle.machine.specs.declared.Refusal.TheVariants.{OutsideStorage, StackUnderflow, StorageLimitExceeded}
use Rattle.machine.proofs.Effects.{fails_by, moves_by}
use Rattle.machine.proofs.operations.store.Goals as goal

pub returns-then-n-lt1 : goal.returns-then-n-lt1
returns-then-n-lt1 c =
    let a = c.args in
    let m = a.work.now in
    fails_by StackUnderflow c.stop.ensures (omega arith) (omega arith) (omega arith)
    (no_item (λ (s : List ℕ). store_of (length m) a.slot s (take a.r.used m)) a.stack.now a.r.items c.if-n-lt1.true)

pub returns-then-at-work : goal.returns-then-at-work
returns-then-at-work c =
    let a = c.args in
    fails_by OutsideStorage c.stop-then-at-work.ensures (omega arith) (omega arith) (omega arith)
    (rw (stack_pop a.stack.now a.r.items c.if-n-lt1.false, lt-ltb a.slot 65536 (omega arith), le-ltb _ _ c.if-at-work.true))

pub returns-then-at-used : goal.returns-then-at-used
returns-then-at-used c =
    let a = c.args in
    let m = a.work.now in
    let v = get_or a.stack.now (a.r.items - 1) 0 in
    moves_by (a.r.items - 1) a.r.used c.go_on.ensures (omega arith) (omega arith) (omega arith)
    (rw (stack_pop a.stack.now a.r.items c.if-n-lt1.false, lt-ltb a.slot 65536 (omega arith), lt-ltb a.slot (length m) c.if-at-work.false, store_in a.r.used a.slot v m c.if-at-used.true (omega arith)))

pub returns : goal.returns
returns c =
    let a = c.args in
    let m = a.work.now in
    let v = get_or a.stack.now (a.r.items - 1) 0 in
    moves_by (a.r.items - 1) (a.slot + 1) c.go_on-2.ensures (omega arith) (omega arith) (omega arith)
    (rw (stack_pop a.stack.now a.r.items c.if-n-lt1.false, lt-ltb a.slot 65536 (omega arith), lt-ltb a.slot (length m) c.if-at-work.false, store_past a.r.used a.slot v m _ c.if-at-used.false c.if-at-work.false (filled a.r.used a.slot m c.fill.new.self c.if-at-used.false (search rules))))

pub returns-then-slot : goal.returns-then-slot
returns-then-slot c =
    let a = c.args in
    fails_by (StorageLimitExceeded c.requested.result) c.stop-then-slot.ensures (omega arith) (omega arith) (omega arith)
    (rw (stack_pop a.stack.now a.r.items c.if-n-lt1.false, le-ltb a.slot 65536 (omega arith), c.requested.ensures))
