-- `keep` meets its contract: the storage has what the run made of it.
use Rattle.std.proofs.Common.{rules, max, arith}
use Rattle.perform.specs.Call.{call_of}
use Rattle.perform.proofs.Needed.{part_ends}
use Rattle.perform.proofs.Results.{succeeded}
use Rattle.perform.proofs.keep.Goals as goal

pub returns : goal.returns
returns c =
    let a = c.args in
    let p = c.requires in
    let before = a.run.state.used in
    let brought = part_ends before a.r.used (max a.r.used before) (omega arith) (omega arith) (omega arith) (rw c.max.ensures at c.copy_part.ensures) in
    λ o like.
    succeeded (call_of a.run a.stack.now a.work.now a.storage.now) a.r _ _ p.lent.same (search rules) o like _ _ p.bounds.1 (omega (arith, p)) p.bounds.0.used c.clear_from.ensures c.copy_changed.ensures brought
