-- `utf8::block` meets its contract: bytes that follow each other between complete characters.
use Rattle.std.proofs.Common.{◌-◌, sym, ◌∙◌, arith}
use Rattle.utf8.proofs.Whole.{of_part, block_passed}
use Rattle.utf8.proofs.block.Goals as goal

pub returns : goal.returns
returns c =
    let a = c.args in
    let n = c.open_len-n in
    rw c.then_some.ensures
    (block_passed a.s.now a.at (a.at - 3) 64 (64 - n.result) (omega arith) (omega (arith, n.ensures)) (omega (arith, n.ensures)) (omega arith)
    (sym c.is_open_at.ensures ∙ c.if-is_open_at.false)
    (of_part a.s.now (a.at - 3) 64 _ (omega arith) (omega arith) (c.all_follow.ensures c.if-not-all_follow.false)) _ c.is_open_at-2.ensures)
