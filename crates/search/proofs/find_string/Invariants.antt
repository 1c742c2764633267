use Rattle.std.proofs.Common.{◌+◌, ◌*◌}
use Rattle.base.specs.Code.Skips.{Skips}
use Rattle.search.specs.First.{first_at}
use Rattle.search.proofs.find_string.Given as goal

abbrev pub invariant-loop-n : goal.invariant-loop-n
invariant-loop-n l = Skips (first_at l.p l.s) l.at (l.at + 16 * l.n)
