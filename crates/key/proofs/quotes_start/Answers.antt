-- `key::quotes_start` meets its contract: behind the place that is reached there are quotes alone.
use Rattle.std.proofs.Common.{refl, arith}
use Rattle.base.proofs.Parts.{length_part}
use Rattle.key.proofs.Quotes.{last_blocks}
use Rattle.key.proofs.quotes_start.Goals as goal

pub returns : goal.returns
returns c =
    let a = c.args in
    let x = c.as_rchunks.ensures in
    let n = c.last_quotes.ensures in
    let l = length_part a.s.now a.from a.end (omega arith) (omega arith) in
    (omega (arith, x.back_len, n.few), omega arith, last_blocks a.s.now a.from a.end _ (omega arith) (omega arith) _ refl _ x.back x.back_len n.quotes n.few)
