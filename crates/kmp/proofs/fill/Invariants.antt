use Rattle.kmp.proofs.Filling.{Filling}
use Prim.Native.Nat.{◌+◌, ◌-◌}
use lib.ListN.{length}
use Rattle.kmp.proofs.fill.Given as goal

abbrev pub invariant-loop-c : goal.invariant-loop-c
invariant-loop-c l = Filling l.p l.shifts l.c l.j

abbrev pub decreases-loop-c : goal.decreases-loop-c
decreases-loop-c l = (length l.p - l.c) + (length l.p - (l.c + l.j))
