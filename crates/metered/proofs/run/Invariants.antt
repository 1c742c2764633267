use Prim.Native.Nat.{◌≤◌}
use mathlib.Core.Path.{◌≡◌}
use lib.ListN.{length}
use Rattle.machine.specs.Machine.{decode, machine}
use Rattle.machine.specs.Code.Registers.{frame_of, Running}
use Rattle.metered.proofs.Loop.{Leads}
use Rattle.metered.proofs.run.Given as goal

abbrev pub invariant-loop-r : goal.invariant-loop-r
invariant-loop-r l =
    Running l.r (length l.stack) (length l.work) × (length l.stack ≡ length l.initial.stack) × (length l.work ≡ length l.initial.work) × (l.r.gas ≤ l.initial.r.gas)
    × Leads (machine (decode l.program.kinds.now l.program.operands.now) l.caller (length l.initial.work)) l.initial.r.gas (frame_of l.initial.stack l.initial.work l.initial.r) l.r.gas (frame_of l.stack l.work l.r)

abbrev pub decreases-loop-r : goal.decreases-loop-r
decreases-loop-r l = l.r.gas
