-- `search::agrees` meets its contract: where p stands, each of its bytes does, so the three do.
use Rattle.std.proofs.Common.{◌+◌, ◌-◌, ◌/◌, length, refl, arith}
use Rattle.base.proofs.Tests.{and_both}
use Rattle.search.proofs.Prefix.{each}
use Rattle.search.proofs.agrees.Goals as goal

pub returns : goal.returns
returns c =
    let a = c.args in
    let p = a.p.now in
    let s = a.s.now in
    λ e.
    and_both _ _
    (and_both _ _ (each p s a.at 0 a.at e (omega arith) (omega arith)) (each p s a.at (length p - 1) (a.at + (length p - 1)) e (omega arith) refl))
    (each p s a.at (length p / 2) (a.at + length p / 2) e (omega arith) refl)
