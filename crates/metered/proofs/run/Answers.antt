-- `run` meets its contract: what the run comes to from the registers of each turn is what it comes to from the start.
use Prim.Native.Nat.{◌≤◌}
use mathlib.Core.Path.{◌≡◌, sym, ap, ◌∙◌}
use native.Mathlib.Omega.{arith}
use native.Mathlib.Nat.{le_trans}
use lib.ListN.{length}
use Rattle.machine.specs.Machine.{decode, done, machine, pay}
use Rattle.machine.specs.declared.Status.TheVariants.{Going, Ended}
use Rattle.machine.specs.Code.Registers.{frame_of, over_of, progress_of}
use Rattle.metered.proofs.Loop.{act_over, goes_on_lem, is_over, ends_with, turn}
use Rattle.metered.proofs.run.Goals as goal
use Rattle.metered.proofs.run.Goals.{After-step-r}

-- the turn of the loop that has just been made
here : (c : After-step-r)
    → pay c.loop-r.r.gas (frame_of c.loop-r.stack c.loop-r.work c.loop-r.r) (machine (decode c.args.program.kinds.now c.args.program.operands.now) c.args.caller (length c.args.work.now) (frame_of c.loop-r.stack c.loop-r.work c.loop-r.r))
    ≡ progress_of c.step-r.new.stack c.step-r.new.work c.step-r.result
here c =
    let a = c.args in
    let l = c.loop-r in
    turn a.program.kinds.now a.program.operands.now a.caller (length a.work.now) l.r c.step-r.result l.stack l.work c.step-r.new.stack c.step-r.new.work c.requires.paired c.loop-r-test.true l.invariant.2 c.step-r.ensures

pub loop-r-preserved : goal.loop-r-preserved
loop-r-preserved c =
    let d = c.step-r in
    let a = c.args in
    let l = c.loop-r in
    let i = l.invariant in
    let z : d.result.status ≡ Going = c.in-Going.is in
    let zero = ap over_of z in
    let h = d.ensures.held in
    let f = d.ensures.falls in (
      record { held = rw d.auto.work h; status = zero; room = omega (arith, d.auto.stack) },
      d.auto.stack ∙ i.1,
      d.auto.work ∙ i.2,
      omega arith,
      λ o k. i.4 o (goes_on_lem (machine (decode a.program.kinds.now a.program.operands.now) a.caller (length a.work.now)) l.r.gas d.result.gas (frame_of l.stack l.work l.r) _ (here (goal.at.loop-r-preserved c).After-step-r ∙ rw z) (omega arith) o k),
    )

pub returns : goal.returns
returns c =
    let a = c.args in
    let l = c.loop-r in
    let i = l.invariant in
    let fr = frame_of l.stack l.work l.r in
    let act = machine (decode a.program.kinds.now a.program.operands.now) a.caller (length a.work.now) in
    let over = ap (pay l.r.gas fr) (act_over a.program.kinds.now a.program.operands.now a.caller (length a.work.now) fr c.requires.paired c.loop-r-test.false) in
    rw c.end.ensures (record {
      progress = λ n h. sym (i.4 (done l.r.gas fr) (ends_with act l.r.gas Ended l.r.gas fr fr over (omega arith)) n h);
      held = omega arith;
      over = omega arith;
      gas = omega arith;
    })

pub returns-in_default : goal.returns-in_default
returns-in_default c =
    let d = c.step-r in
    let a = c.args in
    let l = c.loop-r in
    let q = d.result in
    let one : 1 ≤ over_of q.status = is_over q.status c.in_default.not-Going in
    record {
      progress =
          λ n h.
          sym (l.invariant.4 (progress_of d.new.stack d.new.work q) (ends_with (machine (decode a.program.kinds.now a.program.operands.now) a.caller (length a.work.now)) l.r.gas q.status q.gas (frame_of l.stack l.work l.r) _ (here (goal.at.returns-in_default c).After-step-r) one) n h);
      held = rw l.invariant.2 at d.ensures.held;
      over = one;
      gas = le_trans d.ensures.gas l.invariant.3;
    }
