use Prim.Native.Nat.{◌-◌}
use lib.ListN.{length}
use Rattle.operation.specs.Line.{from_str}
use Rattle.ops.proofs.PassLine.{Passing}
use Rattle.ops.proofs.pass.Given as goal

abbrev pub invariant-loop-at : goal.invariant-loop-at
invariant-loop-at l = Passing from_str l.text l.initial.kinds l.initial.operands l.writing l.room l.kinds l.operands l.at l.line l.n

abbrev pub decreases-loop-at : goal.decreases-loop-at
decreases-loop-at l = length l.text - l.at
