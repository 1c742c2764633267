-- `Waiting::write` meets its contract: operator by operator, the newest first.
use mathlib.Core.Path.{refl, ap, ◌∙◌}
use lib.ListN.{length}
use Rattle.emission.proofs.WaitingLoop.{popping_ends, top_fits, top_goes}
use Rattle.emission.proofs.waiting.Waiting.write.Goals as goal

pub put_operator-to-requires : goal.put_operator-to-requires
put_operator-to-requires c =
    let i = c.loop-operator.invariant in
    let t = rw c.in-Some.is at c.newest.ensures in
    top_fits c.loop-operator.self.operators i.1 t (ap length i.0 ∙ c.requires.holds.full)

pub loop-operator-preserved : goal.loop-operator-preserved
loop-operator-preserved c =
    let i = c.loop-operator.invariant in
    let t = rw c.in-Some.is at c.newest.ensures in
    (i.0, top_goes c.loop-operator.self.operators i.1 t (ap length i.0 ∙ c.requires.holds.full) c.put_operator-to.ensures)

pub returns : goal.returns
returns c =
    let i = c.loop-operator.invariant in
    let t = rw c.in_default.is at c.newest.ensures in
    popping_ends c.loop-operator.self.operators i.1 t _ i.0 refl (ap length i.0 ∙ c.requires.holds.full)
