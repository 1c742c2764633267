-- `compile` meets its contract: each way it returns composes, and with that the compile statement holds.
use mathlib.Core.Path.{sym}
use lib.Seq.{length-take-le}
use Rattle.std.proofs.lemmas.Result.{err_from_is_err_and}
use Rattle.compile.proofs.Assembled.{within}
use Rattle.compile.proofs.Composition.{is_written, not-assembled, not_read_lem, has_run}
use Rattle.compile.proofs.Delivery.{delivers}
use Rattle.compile.proofs.compile.Goals as goal

pub returns-in_err-assembly : goal.returns-in_err-assembly
returns-in_err-assembly c =
    let p = err_from_is_err_and c.from_residual.result c.from_residual.ensures.1 in
    rw (p.1, p.2) (delivers (not-assembled _ c.assemble.ensures c.in_err-assembly.was))

pub slice_bounds-parse_ops-end : goal.slice_bounds-parse_ops-end
slice_bounds-parse_ops-end c =
    let a = c.args in
    within a.contract.now a.vector.now a.stem.now a.out.now c.assemble.ensures c.in_ok-assembly.was

pub slice_bounds-parse_ops-end-2 : goal.slice_bounds-parse_ops-end-2
slice_bounds-parse_ops-end-2 c =
    let a = c.args in
    sym (length-take-le _ _ (within a.contract.now a.vector.now a.stem.now a.out.now c.assemble.ensures c.in_ok-assembly.was))

pub returns-in_err-operations : goal.returns-in_err-operations
returns-in_err-operations c =
    let p = err_from_is_err_and c.from_residual-in_err-operations.result c.from_residual-in_err-operations.ensures.1 in
    rw (p.1, p.2) (delivers (not_read_lem _ (is_written _ c.assemble.ensures c.in_ok-assembly.was) c.parse_ops.ensures c.in_err-operations.was))

pub returns : goal.returns
returns c =
    delivers (has_run _ (is_written _ c.assemble.ensures c.in_ok-assembly.was) c.parse_ops.ensures c.in_ok-operations.was c.execute_state_transition_with_gas-answer.ensures)
