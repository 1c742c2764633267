-- `replay_lines` is safe, ends, and what it counts lies within the text: a line ends before its line feed.
-- Assumes nothing.
use Rattle.std.proofs.Common.{rules, arith, sym, ◌∙◌}
use Rattle.replay.proofs.Found.{within}
use Rattle.replay.proofs.replay_lines.Goals as goal

pub slice_bounds-replay-count : goal.slice_bounds-replay-count
slice_bounds-replay-count g c = let w = within 10 c.args.text.now c.loop-end.at c.in-Some.end (sym c.find_byte.ensures ∙ c.in-Some.is) in w.0

pub slice_bounds-replay-start : goal.slice_bounds-replay-start
slice_bounds-replay-start g c = let w = within 10 c.args.text.now c.loop-end.at c.in-Some.end (sym c.find_byte.ensures ∙ c.in-Some.is) in let p = w.0 in let h = w.1 in search rules

pub slice_bounds-replay-end : goal.slice_bounds-replay-end
slice_bounds-replay-end g c = let w = within 10 c.args.text.now c.loop-end.at c.in-Some.end (sym c.find_byte.ensures ∙ c.in-Some.is) in let p = w.0 in let h = w.1 in search rules

pub loop-end-smaller : goal.loop-end-smaller
loop-end-smaller g c = let w = within 10 c.args.text.now c.loop-end.at c.in-Some.end (sym c.find_byte.ensures ∙ c.in-Some.is) in let p = w.0 in let h = w.1 in omega arith

pub loop-end-preserved : goal.loop-end-preserved
loop-end-preserved g c = let w = within 10 c.args.text.now c.loop-end.at c.in-Some.end (sym c.find_byte.ensures ∙ c.in-Some.is) in let h = w.1 in omega arith
