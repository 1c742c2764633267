-- `ops::trimmed_line` meets its contract: the line of the number, trimmed.
use mathlib.Core.Path.{refl, sym, ◌∙◌}
use native.Mathlib.Omega.{arith}
use Rattle.ops.proofs.LineStarts.{numbered_line, numbered_text, numbered_place, numbered_none, none_place}
use Rattle.ops.proofs.trimmed_line.Goals as goal

pub slice_bounds-trim-end : goal.slice_bounds-trim-end
slice_bounds-trim-end c =
    let i = numbered_line c.args.text.now c.args.line _ (sym c.nth_line.ensures ∙ c.in-Some.is) in
    let e = i.before in
    let g = i.fits in omega arith

pub returns-in-Some : goal.returns-in-Some
returns-in-Some c =
    let text = c.args.text.now in
    let n = c.args.line in
    let e = sym c.nth_line.ensures ∙ c.in-Some.is in
    let t = c.trim.ensures in
    record { text = t.text ∙ numbered_text text n _ e; block = t.block; offset = omega (arith, t.offset, numbered_place text n _ e) }

pub returns-in-None : goal.returns-in-None
returns-in-None c =
    let text = c.args.text.now in
    let n = c.args.line in
    let e = sym c.nth_line.ensures ∙ c.in-None.is in
    record { text = sym (numbered_none text n e); block = refl; offset = omega (arith, none_place text n e) }
