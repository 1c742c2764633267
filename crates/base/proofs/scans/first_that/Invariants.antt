use Rattle.std.proofs.Common.{ℕ, ◌≤◌, ◌<◌, false}
use Rattle.base.proofs.scans.first_that.Given as goal

abbrev pub invariant-loop-i : goal.invariant-loop-i
invariant-loop-i g l = (k : ℕ) → l.at ≤ k → k < l.i → goal.F-post g l.test k false
