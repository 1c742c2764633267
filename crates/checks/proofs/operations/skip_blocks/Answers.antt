-- `operations::skip_blocks` meets its contract: a block in which the test finds nothing leaves the check to the rest.
use Rattle.std.proofs.Common.{arith, ◌≡◌, ◌+◌, ◌*◌, ◌∙◌}
use Rattle.checks.proofs.Laws.{passes_at}
use Rattle.checks.proofs.operations.skip_blocks.Goals as goal

pub loop-block-preserved : goal.loop-block-preserved
loop-block-preserved g c = λ n sound.
    let p = c.args.program in
    let at = c.loop-block.block * 16 in
    let ok = sound _ c.if-finds.ensures in
    let e : (c.loop-block.block + 1) * 16 ≡ at + 16 = omega arith in
    rw e (c.loop-block.invariant n sound ∙ passes_at n at p.kinds.now p.operands.now (omega arith) (omega arith) ok)
