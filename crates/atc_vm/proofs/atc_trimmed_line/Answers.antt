-- `atc_vm::atc_trimmed_line` meets its contract: by the line of the number.
-- Assumes nothing.
use Rattle.std.proofs.Common.{rules, refl, sym, ◌∙◌}
use Rattle.ops.proofs.LineStarts.{numbered_line}
use Rattle.atc_vm.proofs.Words.{none_told, line_told}
use Rattle.atc_vm.proofs.atc_trimmed_line.Goals as goal

pub slice_bounds-trimmed_span-end : goal.slice_bounds-trimmed_span-end
slice_bounds-trimmed_span-end c =
    let i = numbered_line c.args.text.now c.args.line c.in-Some.l (sym c.nth_line.ensures ∙ c.in-Some.is) in
    let b = i.ends in
    let e = i.before in
    let g = i.fits in
    search rules

pub returns-in_default : goal.returns-in_default
returns-in_default c = none_told c.args.text.now c.args.line (sym c.nth_line.ensures ∙ c.in_default.is) c.plain.ensures c.tell.ensures

pub returns : goal.returns
returns c = line_told c.args.text.now c.args.line (sym c.nth_line.ensures ∙ c.in-Some.is) c.trimmed_span-span.ensures refl refl c.carrying.ensures c.tell-2.ensures
