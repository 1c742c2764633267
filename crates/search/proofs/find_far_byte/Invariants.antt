use Rattle.std.proofs.Common.{[], ◌∷◌, ◌+◌, ◌*◌}
use Rattle.base.specs.Code.Skips.{Skips}
use Rattle.search.specs.First.{first_at}
use Rattle.search.proofs.find_far_byte.Given as goal

abbrev pub invariant-loop-n : goal.invariant-loop-n
invariant-loop-n l = Skips (first_at (l.b ∷ []) l.s) l.at (l.at + 64 * l.n)
