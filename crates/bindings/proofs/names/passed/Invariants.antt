use Rattle.std.proofs.Common.{ℕ, ◌≡◌, ◌<◌, ◌≤◌, false, eqb, length, get_or, take}
use Rattle.bindings.proofs.names.passed.Given as goal

abbrev pub invariant-loop-older : goal.invariant-loop-older
invariant-loop-older l = (length l.rest ≤ length l.tags) × (l.rest ≡ take (length l.rest) l.tags) × ((k : ℕ) → length l.rest ≤ k → k < length l.tags → eqb (get_or l.tags k 0) l.tag ≡ false)

abbrev pub decreases-loop-older : goal.decreases-loop-older
decreases-loop-older l = length l.rest
