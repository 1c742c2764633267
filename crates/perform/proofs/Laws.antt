-- What 34 leaves to be relied on.
use mathlib.Core.Path.{◌≡◌}
use mathlib.Core.Bool.{true, ◌&&◌}
use lib.Dec.{eqb, leb}
use lib.ListN.{length}
use borrow.Author.Tests.{eqb-true, leb-true}
use Rattle.base.proofs.Tests.{and_left, and_right}
use Rattle.checks.specs.Verify.{buffers_fit}
use Rattle.perform.specs.Call.{Call}
use Rattle.perform.specs.Lent.{Lent}

pub lent : (x : Call) → buffers_fit (length x.kinds) (length x.operands) (length x.stack) (length x.work) (length x.storage) x.state.used ≡ true → Lent x
lent x e =
    let program = eqb (length x.kinds) (length x.operands) in
    let stack = leb 4096 (length x.stack) in
    let same = eqb (length x.work) (length x.storage) in
    let within = leb x.state.used (length x.storage) in
    let left = and_left (program && stack) (same && within) e in
    let right = and_right (program && stack) (same && within) e in
    record {
      program = eqb-true (length x.kinds) (length x.operands) (and_left program stack left);
      stack = leb-true 4096 (length x.stack) (and_right program stack left);
      same = eqb-true (length x.work) (length x.storage) (and_left same within right);
      within = leb-true x.state.used (length x.storage) (and_right same within right);
    }
