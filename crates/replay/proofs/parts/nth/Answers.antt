-- `parts::nth` is safe: a mark that is found lies within the text.
-- Assumes nothing.
use Rattle.std.proofs.Common.{rules, arith, sym, ◌∙◌}
use lib.Seq.{length-take-le}
use Rattle.replay.proofs.Found.{within}
use Rattle.replay.proofs.parts.nth.Goals as goal

pub overflow_add-rest : goal.overflow_add-rest
overflow_add-rest c = let w = within c.args.mark c.loop.rest.now 0 c.in-Some.end (sym c.find_byte.ensures ∙ c.in-Some.is) in let h = w.1 in omega arith

pub slice_bounds-rest-count : goal.slice_bounds-rest-count
slice_bounds-rest-count c = let w = within c.args.mark c.loop.rest.now 0 c.in-Some.end (sym c.find_byte.ensures ∙ c.in-Some.is) in let h = w.1 in omega arith

pub slice_bounds-rest-start : goal.slice_bounds-rest-start
slice_bounds-rest-start c = let w = within c.args.mark c.loop.rest.now 0 c.in-Some.end (sym c.find_byte.ensures ∙ c.in-Some.is) in let h = w.1 in search rules

pub slice_bounds-result-end-in-Some-find_byte : goal.slice_bounds-result-end-in-Some-find_byte
slice_bounds-result-end-in-Some-find_byte c = let w = within c.args.mark c.loop.rest.now 0 c.in-Some-find_byte.end (sym c.find_byte-2.ensures ∙ c.in-Some-find_byte.is) in let h = w.1 in sym (length-take-le _ _ (omega arith))
