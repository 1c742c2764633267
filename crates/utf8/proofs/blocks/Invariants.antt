use Prim.Native.Nat.{◌-◌}
use lib.ListN.{length}
use Rattle.base.specs.Code.Skips.{SkipsTo}
use Rattle.utf8.specs.Code.From.{utf8_from}
use Rattle.utf8.proofs.blocks.Given as goal

abbrev pub invariant-loop-n : goal.invariant-loop-n
invariant-loop-n l = SkipsTo (utf8_from l.s) l.at (length l.s) l.i

abbrev pub decreases-loop-n : goal.decreases-loop-n
decreases-loop-n l = length l.s - l.i
