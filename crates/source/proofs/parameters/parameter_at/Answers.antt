-- `source::parameters::parameter_at` meets its contract: by whether a comma follows the piece.
use native.Mathlib.Omega.{arith}
use Rattle.source.proofs.Cuts.{cut_length}
use Rattle.source.proofs.Pieces.{placed_inside, placed_last, placed_more}
use Rattle.source.proofs.parameters.parameter_at.Goals as goal

pub slice_bounds-name_of-end : goal.slice_bounds-name_of-end
slice_bounds-name_of-end c = omega (arith, cut_length 0x2C c.args.s.now c.args.at c.requires)

pub behind-requires : goal.behind-requires
behind-requires c =
    let a = c.args in
    let i = placed_inside a.s.now a.at c.requires c.cut-stop.result c.cut-stop.ensures c.name_of.result c.name_of.ensures in
    (omega arith, omega arith)

pub returns-then-stop-s : goal.returns-then-stop-s
returns-then-stop-s c =
    let a = c.args in
    rw c.behind.ensures (placed_more a.s.now a.at c.requires c.cut-stop.result c.cut-stop.ensures c.name_of.result c.name_of.ensures c.if-stop-s.true)

pub returns-else-stop-s : goal.returns-else-stop-s
returns-else-stop-s c =
    let a = c.args in
    rw c.behind.ensures (placed_last a.s.now a.at c.requires c.cut-stop.result c.cut-stop.ensures c.name_of.result c.name_of.ensures c.if-stop-s.false)
