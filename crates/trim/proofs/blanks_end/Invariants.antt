use Rattle.std.proofs.Common.{◌≡◌, ◌-◌, ◌≤◌, length}
use Rattle.trim.specs.Code.Blank.{blanks_end}
use Rattle.trim.proofs.blanks_end.Given as goal

abbrev pub invariant-loop-n : goal.invariant-loop-n
invariant-loop-n l = (l.i ≤ length l.s) × (blanks_end l.s l.at ≡ blanks_end l.s l.i)

abbrev pub decreases-loop-n : goal.decreases-loop-n
decreases-loop-n l = length l.s - l.i
