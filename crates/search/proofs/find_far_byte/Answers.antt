-- `search::find_far_byte` meets its contract: each block that is passed is without the byte.
use Rattle.std.proofs.Common.{◌∙◌, sym, arith}
use Rattle.base.proofs.Parts.{take-length-drop}
use Rattle.search.proofs.Blocks.{block_hit, block_miss}
use Rattle.search.proofs.find_far_byte.Goals as goal

pub returns-in-Some : goal.returns-in-Some
returns-in-Some c =
    let a = c.args in
    let s = a.s.now in
    let x = c.as_chunks.ensures in
    let f = rw c.in-Some.is at c.place_in.ensures in
    sym (c.loop-n.invariant ∙ block_hit a.b s a.at _ (take-length-drop s a.at) (omega arith) _ x.front x.front_len c.loop-n.n c.loop-n-test.true _ f)

pub loop-n-preserved : goal.loop-n-preserved
loop-n-preserved c =
    let a = c.args in
    let s = a.s.now in
    let x = c.as_chunks.ensures in
    let f = rw c.in_default.is at c.place_in.ensures in
    c.loop-n.invariant ∙ block_miss a.b s a.at _ (take-length-drop s a.at) (omega arith) _ x.front x.front_len c.loop-n.n c.loop-n-test.true f
