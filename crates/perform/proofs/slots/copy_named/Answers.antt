-- `slots::copy_named` meets its contract: the slots of the operations passed.
use Rattle.std.proofs.Common.{length}
use Rattle.std.proofs.lemmas.List.{length_push}
use Rattle.std.proofs.lemmas.Slice.Zip.{zip_turn}
use Rattle.perform.proofs.Needed.{named_none, named_more}
use Rattle.perform.proofs.slots.copy_named.Goals as goal

pub loop-kind-init : goal.loop-kind-init
loop-kind-init c = let a = c.args in named_none a.program.kinds.now a.program.operands.now a.used a.s.now a.d.now

pub loop-kind-preserved : goal.loop-kind-preserved
loop-kind-preserved c =
    let a = c.args in
    let l = c.loop-kind in
    let ks = a.program.kinds.now in
    let vs = a.program.operands.now in
    let t = zip_turn ks vs l.yielded c.into_iter-kind-iterator.result l.kind-iterator c.next.new.self _ (cc) (cc) l.yielded_by (c.in-Some.kind, c.in-Some.operand) c.in-Some.is c.next.ensures.steps in
    rw (length_push l.yielded (c.in-Some.kind, c.in-Some.operand)) (named_more ks vs a.used (length l.yielded) l.invariant (rw (t.2 0, t.3 0) at c.copy_slot.ensures))
