-- `search::string_before` meets its contract: each place is tested.
use Rattle.std.proofs.Common.{arith, rules, tests}
use Rattle.search.proofs.Laws.{first_before}
use Rattle.search.proofs.string_before.Goals as goal

pub returns : goal.returns
returns c =
    let a = c.args in
    first_before a.p.now a.s.now a.at a.end (omega arith) (omega arith) _ c.first_that.ensures (λ k l g q. search (rules, tests)) (λ k l g q. search (rules, tests))
