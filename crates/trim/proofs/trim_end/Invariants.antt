use Rattle.std.proofs.Common.{◌≡◌, ◌≤◌, length, take, reverse}
use Rattle.trim.specs.Trim.{back}
use Rattle.trim.proofs.trim_end.Given as goal

abbrev pub invariant-loop-n : goal.invariant-loop-n
invariant-loop-n l = (l.e ≤ length l.s) × (back (reverse l.s) ≡ back (reverse (take l.e l.s)))

abbrev pub decreases-loop-n : goal.decreases-loop-n
decreases-loop-n l = l.e
