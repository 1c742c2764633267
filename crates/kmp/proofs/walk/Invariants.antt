use Rattle.kmp.proofs.Walking.{Walking}
use Prim.Native.Nat.{◌+◌, ◌-◌}
use lib.ListN.{length}
use Rattle.kmp.proofs.walk.Given as goal

abbrev pub invariant-loop-c : goal.invariant-loop-c
invariant-loop-c l = Walking l.p l.s l.at l.c l.j

abbrev pub decreases-loop-c : goal.decreases-loop-c
decreases-loop-c l = (length l.s - l.c) + (length l.s - (l.c + l.j))
