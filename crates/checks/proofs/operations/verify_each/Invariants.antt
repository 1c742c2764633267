use Rattle.std.proofs.Common.{◌≡◌}
use Rattle.std.specs.Iterator.Adapters.{zip_first, zip_second}
use Rattle.std.specs.Slice.Iter.{iter_rest}
use Rattle.checks.specs.Verify.{operations_check}
use Rattle.checks.proofs.operations.verify_each.Given as goal

abbrev pub invariant-loop-kind : goal.invariant-loop-kind
invariant-loop-kind l =
    operations_check l.size l.program.kinds.now l.program.operands.now
    ≡ operations_check l.size (iter_rest (zip_first l.kind-iterator)) (iter_rest (zip_second l.kind-iterator))
