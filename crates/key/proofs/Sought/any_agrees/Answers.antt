-- `key::Sought::any_agrees` meets its contract: with no hit the key stands in double quotes at none of the places.
use Rattle.std.proofs.Common.{◌+◌, arith, rules, tests}
use Rattle.search.proofs.Laws.{skip_no}
use Rattle.key.specs.Key.{quoted}
use Rattle.key.proofs.Sought.any_agrees.Goals as goal

pub returns : goal.returns
returns c =
    let a = c.args in
    λ e. skip_no (quoted a.self.key.now) a.self.s.now a.at (a.at + a.n) (omega arith) (λ k l g. let q = c.any_at.ensures.none e k l g in search (rules, tests))
