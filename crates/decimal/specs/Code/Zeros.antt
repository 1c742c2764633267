-- Zeros before a number's other digits, which may be passed.
use Rattle.std.specs.Prelude.{ℕ, ◌+◌, ◌≤◌, ◌≡◌, List, length, drop}
use Rattle.base.specs.Lists.{take_while}
use Rattle.decimal.specs.Decimal.{digit, value}

-- the digits starting at an offset end where those from another on do, and write the same number
pub record ZerosTo (s : List ℕ) (at end : ℕ) : Type 0 where
  pub on : at ≤ end
  pub stop : at + length (take_while digit (drop at s)) ≡ end + length (take_while digit (drop end s))
  pub same : value (take_while digit (drop at s)) ≡ value (take_while digit (drop end s))
