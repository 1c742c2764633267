-- `replay::function::print` is safe: the function's body lies within the contract.
-- Assumes nothing.
use Rattle.std.proofs.Common.{rules, sym, ◌∙◌}
use Rattle.source.proofs.Places.{ordered}
use Rattle.replay.proofs.function.print.Goals as goal

pub slice_bounds-print-count : goal.slice_bounds-print-count
slice_bounds-print-count g c = (ordered c.args.contract.now c.in-Ok.places (sym c.find_function-answer.ensures.answer ∙ c.in-Ok.is)).body

pub slice_bounds-print-start : goal.slice_bounds-print-start
slice_bounds-print-start g c = let o = ordered c.args.contract.now c.in-Ok.places (sym c.find_function-answer.ensures.answer ∙ c.in-Ok.is) in let b = o.body in let f = o.fits in search rules

pub slice_bounds-print-end : goal.slice_bounds-print-end
slice_bounds-print-end g c = let o = ordered c.args.contract.now c.in-Ok.places (sym c.find_function-answer.ensures.answer ∙ c.in-Ok.is) in let b = o.body in let f = o.fits in search rules
