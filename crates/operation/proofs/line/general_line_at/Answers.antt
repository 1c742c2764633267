-- `line::general_line_at` meets its contract: by whether a line starts there.
use mathlib.Core.Path.{sym, ◌∙◌}
use native.Mathlib.Nat.{le_trans}
use native.Mathlib.Omega.{arith}
use Rattle.base.proofs.Parts.{length_part}
use Rattle.lines.proofs.Cursor.{step_line}
use Rattle.operation.specs.Line.{from_str}
use Rattle.operation.proofs.GeneralLine.{reached_next}
use Rattle.operation.proofs.line.general_line_at.Goals as goal

pub slice_bounds-read_line-end : goal.slice_bounds-read_line-end
slice_bounds-read_line-end c =
    let i = step_line c.args.text.now c.args.at _ (sym c.line_at.ensures ∙ c.in-Some.is) in
    le_trans i.before i.fits

pub read_line-read-requires : goal.read_line-read-requires
read_line-read-requires c =
    let a = c.args in
    let i = step_line a.text.now a.at _ (sym c.line_at.ensures ∙ c.in-Some.is) in
    let e = le_trans i.before i.fits in
    let z = c.well_formed.0.0 in
    omega (arith, z, e, i.ends, length_part a.text.now a.at c.in-Some.l.text.end i.ends e)

pub returns : goal.returns
returns c = reached_next c.args.text.now c.args.at from_str c.args.line _ _ (sym c.line_at.ensures ∙ c.in-Some.is) c.read_line-read.ensures
