-- `trim::trim_start` meets its contract: what is passed first is White_Space.
use Rattle.trim.proofs.trim_start.Goals as goal

pub loop-n-init : goal.loop-n-init
loop-n-init c = let w = c.skip_white-i.ensures in (w.within, w.same)
