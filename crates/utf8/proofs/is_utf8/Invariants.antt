use Prim.Native.Nat.{◌-◌}
use lib.ListN.{length}
use Rattle.base.specs.Code.Skips.{SkipsTo}
use Rattle.utf8.specs.Code.From.{utf8_from}
use Rattle.utf8.proofs.is_utf8.Given as goal

abbrev pub invariant-loop-i : goal.invariant-loop-i
invariant-loop-i l = SkipsTo (utf8_from l.s) 0 (length l.s) l.i

abbrev pub decreases-loop-i : goal.decreases-loop-i
decreases-loop-i l = length l.s - l.i
