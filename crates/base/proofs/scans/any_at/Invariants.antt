use Rattle.std.proofs.Common.{ℕ, ◌≡◌, ◌+◌, ◌<◌, ◌≤◌, true, false}
use Rattle.base.proofs.scans.any_at.Given as goal

abbrev pub invariant-loop-k : goal.invariant-loop-k
invariant-loop-k g l = record {
  some : l.hit ≡ true → (i : ℕ) × (l.at ≤ i) × (i < l.at + l.k) × goal.F-post g l.test i true;
  none : l.hit ≡ false → (i : ℕ) → l.at ≤ i → i < l.at + l.k → goal.F-post g l.test i false;
}
