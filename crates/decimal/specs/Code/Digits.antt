-- Digits at an offset of a text, and a decimal written into a buffer.
use Rattle.std.specs.Prelude.{Option, Some, None}
use Rattle.std.specs.Prelude.{ℕ, ◌+◌, ◌^◌, List, Bool, cond, leb, ltb, length, drop}
use Rattle.base.specs.Overwrite.{overwrite}
use Rattle.decimal.specs.declared.Digits.{Digits}
use Rattle.base.specs.Lists.{take_while}
use Rattle.decimal.specs.Decimal.{digit, decimal, value}

-- a number of 64 bits, or that it is none
abbrev pub capped : ℕ → Option ℕ
capped n = cond (ltb n (2 ^ 64)) (Some n) None

-- the digits starting at an offset; where none stands, they write 0
abbrev pub digits_at : List ℕ → ℕ → Digits
digits_at s at = record { len = length (take_while digit (drop at s)); value = capped (value (take_while digit (drop at s))) }

-- whether a number written at an offset ends within a buffer's length
abbrev pub fits_at : ℕ → ℕ → ℕ → Bool
fits_at n at room = leb (at + length (decimal n)) room

abbrev pub written_at : ℕ → ℕ → ℕ → Option ℕ
written_at n at room = cond (fits_at n at room) (Some (at + length (decimal n))) None

abbrev pub buffer_after : ℕ → ℕ → List ℕ → List ℕ
buffer_after n at out = cond (fits_at n at (length out)) (overwrite at (decimal n) out) out
