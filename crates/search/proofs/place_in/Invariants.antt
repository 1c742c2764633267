use Rattle.std.proofs.Common.{ℕ, ◌≤◌, ◌<◌, true, false}
use Rattle.search.specs.Code.Scan.{is_at}
use Rattle.search.proofs.place_in.Given as goal

abbrev pub invariant-loop-k : goal.invariant-loop-k
invariant-loop-k l = record {
  within : l.least ≤ 64;
  before : (j : ℕ) → j < l.k → j < l.least → is_at l.b l.block j false;
  here : l.least < 64 → (l.least < l.k) × is_at l.b l.block l.least true;
}
