use Prim.Native.Nat.{◌-◌, ◌^◌, ◌<◌}
use mathlib.Core.Path.{◌≡◌}
use lib.ListN.{length, drop}
use Rattle.base.specs.Lists.{take_while}
use Rattle.base.proofs.Lists.{end_from}
use Rattle.decimal.specs.Decimal.{digit, value, value_from}
use Rattle.decimal.proofs.few_digits_at.Given as goal

abbrev pub invariant-loop-d : goal.invariant-loop-d
invariant-loop-d l = (l.acc < 2 ^ 64) × (end_from digit l.s l.at ≡ end_from digit l.s l.i) × (value (take_while digit (drop l.at l.s)) ≡ value_from l.acc (take_while digit (drop l.i l.s)))

abbrev pub decreases-loop-d : goal.decreases-loop-d
decreases-loop-d l = length l.s - l.i
