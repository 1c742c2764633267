-- `e1` is safe: the text lies within the buffer.
use native.Mathlib.Omega.{arith}
use Rattle.examples.proofs.Assembly.{sized}
use Rattle.examples.proofs.e1.Goals as goal

pub slice_bounds-out-end : goal.slice_bounds-out-end
slice_bounds-out-end g c = omega (arith, sized c.tally-assembled.ensures.buffer)
