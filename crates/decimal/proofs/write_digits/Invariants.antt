use mathlib.Core.Path.{◌≡◌}
use lib.ListN.{length}
use Rattle.base.specs.Overwrite.{overwrite}
use Rattle.decimal.specs.Decimal.{decimal}
use Rattle.decimal.proofs.Buffer.{Ends}
use Rattle.decimal.proofs.write_digits.Given as goal

abbrev pub invariant-loop-rest : goal.invariant-loop-rest
invariant-loop-rest l = (length l.out ≡ length l.initial.out) × Ends l.at l.rest l.i l.out × (overwrite l.at (decimal l.rest) l.out ≡ overwrite l.at (decimal l.n) l.initial.out)

abbrev pub decreases-loop-rest : goal.decreases-loop-rest
decreases-loop-rest l = l.rest
