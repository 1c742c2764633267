-- `key::Sought::find_before` meets its contract: each place is tested.
use Rattle.std.proofs.Common.{arith, rules, tests}
use Rattle.search.proofs.Laws.{first_before}
use Rattle.key.specs.Key.{quoted}
use Rattle.key.proofs.Sought.find_before.Goals as goal

pub returns : goal.returns
returns c =
    let a = c.args in
    let w = a.self in
    first_before (quoted w.key.now) w.s.now a.at a.end (omega arith) (omega arith) _ c.first_that.ensures (λ k l g q. search (rules, tests)) (λ k l g q. search (rules, tests))
