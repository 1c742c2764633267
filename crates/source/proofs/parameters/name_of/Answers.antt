-- `source::parameters::name_of` meets its contract: the piece is trimmed, cut at the colon, and trimmed again.
use Prim.Native.Nat.{◌≤◌}
use mathlib.Core.Path.{sym}
use native.Mathlib.Omega.{arith}
use lib.ListN.{length}
use lib.Seq.{length-take-le}
use Rattle.source.proofs.Names.{whole_fits, colon_fits, name_is, name_inside}
use Rattle.source.proofs.parameters.name_of.Goals as goal
use Rattle.source.proofs.parameters.name_of.Goals.{After-trimmed_span-whole}

whole_here : (c : After-trimmed_span-whole) → let w = c.trimmed_span-whole.result in (w.start ≤ w.end) × (w.end ≤ length c.args.piece.now)
whole_here c = whole_fits c.args.piece.now c.trimmed_span-whole.result c.trimmed_span-whole.ensures

pub slice_bounds-text-count : goal.slice_bounds-text-count
slice_bounds-text-count c = let f = whole_here (goal.at.slice_bounds-text-count c).After-trimmed_span-whole in omega arith

pub slice_bounds-text-start : goal.slice_bounds-text-start
slice_bounds-text-start c = let f = whole_here (goal.at.slice_bounds-text-start c).After-trimmed_span-whole in omega arith

pub slice_bounds-text-end : goal.slice_bounds-text-end
slice_bounds-text-end c = let f = whole_here (goal.at.slice_bounds-text-end c).After-trimmed_span-whole in omega arith

pub slice_bounds-trimmed_span-end : goal.slice_bounds-trimmed_span-end
slice_bounds-trimmed_span-end c =
    let w = c in
    let k = c.cut-colon in
    sym (length-take-le _ _ (colon_fits w.args.piece.now w.trimmed_span-whole.result w.trimmed_span-whole.ensures k.result k.ensures))

pub behind-requires : goal.behind-requires
behind-requires c =
    let i = name_inside c.args.piece.now c.trimmed_span-whole.result c.trimmed_span-whole.ensures c.cut-colon.result c.cut-colon.ensures c.trimmed_span.result c.trimmed_span.ensures in
    (omega arith, omega arith)

pub returns : goal.returns
returns c = rw c.behind.ensures (name_is c.args.piece.now c.trimmed_span-whole.result c.trimmed_span-whole.ensures c.cut-colon.result c.cut-colon.ensures c.trimmed_span.result c.trimmed_span.ensures)
