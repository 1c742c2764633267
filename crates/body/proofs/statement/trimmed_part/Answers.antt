-- `body::statement::trimmed_part` meets its contract: the trimmed part lies within the part.
-- Assumes nothing.
use mathlib.Core.Path.{ap}
use native.Mathlib.Omega.{arith}
use Rattle.base.specs.declared.span.Span.{Span}
use Rattle.body.proofs.Places.{trimmed_inside}
use Rattle.body.proofs.statement.trimmed_part.Goals as goal

pub behind-requires : goal.behind-requires
behind-requires c =
    let a = c.args in
    let i = trimmed_inside a.contract.now a.part.start a.part.end c.requires.ordered c.requires.high in
    let s = ap (λ (r : Span). r.start) c.trimmed_span.ensures in
    let e = ap (λ (r : Span). r.end) c.trimmed_span.ensures in (omega arith, omega arith)
