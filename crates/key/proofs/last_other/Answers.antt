-- `key::last_other` meets its contract: where nothing else is found, quotes alone stand before the blocks as in them.
use Rattle.std.proofs.Common.{arith, rules, tests}
use Rattle.key.proofs.Quotes.{joined, of_part}
use Rattle.key.proofs.last_other.Goals as goal

pub returns-in_err-k : goal.returns-in_err-k
returns-in_err-k c =
    let a = c.args in
    let m = c.quotes_start-quotes in
    rw c.from_residual.ensures (joined a.s.now a.from m.result a.end (of_part a.s.now a.from m.result (omega arith) (omega arith) (search (rules, tests))) m.ensures.2)
