-- Numbers in plain decimal: what a text of digits writes, `u64::from_str`, and the digits of a number.
use Rattle.std.specs.Prelude.{Option, Some, None}
use Rattle.std.specs.Prelude.{ℕ, zero, suc, ◌+◌, ◌-◌, ◌*◌, ◌/◌, ◌%◌, ◌^◌, List, [], ◌∷◌, ◌++◌, Bool, cond, ◌&&◌, eqb, ltb, length}
use Rattle.base.specs.Range.{within}
use Rattle.base.specs.Lists.{all}

-- 0 to 9
abbrev pub digit : ℕ → Bool
digit a = within 48 57 a

-- the number that digits write behind acc, as large as it may be
abbrev pub value_from : ℕ → List ℕ → ℕ
value_from acc [] = acc
value_from acc (a ∷ s) = value_from (acc * 10 + (a - 48)) s

abbrev pub value : List ℕ → ℕ
value s = value_from 0 s

-- a text without the plus that it may start with
abbrev pub without_plus : List ℕ → List ℕ
without_plus [] = []
without_plus (a ∷ s) = cond (eqb a 43) s (a ∷ s)

-- one digit or more and nothing else, below 2 ^ 64
abbrev pub from_digits : List ℕ → Option ℕ
from_digits s = cond (ltb 0 (length s) && all digit s && ltb (value s) (2 ^ 64)) (Some (value s)) None

-- `u64::from_str`
abbrev pub number_of : List ℕ → Option ℕ
number_of s = from_digits (without_plus s)

-- the last digits of a number, at most as many as fuel
abbrev pub decimal_with : ℕ → ℕ → List ℕ
decimal_with zero n = []
decimal_with (suc fuel) n = let more = decimal_with fuel (n / 10) ++ (48 + n % 10) ∷ [] in cond (ltb n 10) ((48 + n) ∷ []) more

-- a number in plain decimal, with no leading zeros
unfoldable pub decimal : ℕ → List ℕ
decimal n = decimal_with (suc n) n
