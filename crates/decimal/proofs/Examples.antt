-- What the definitions give, computed.
use Rattle.std.specs.Prelude.{Some, None}
use mathlib.Core.Path.{◌≡◌, refl}
use mathlib.Core.List.{[], ◌∷◌}
use Rattle.decimal.specs.Decimal.{number_of, decimal}
use Rattle.decimal.specs.Code.Digits.{digits_at}

decimal_zero : decimal 0 ≡ 48 ∷ []
unfolding decimal
decimal_zero = refl

decimal_seven : decimal 7 ≡ 55 ∷ []
unfolding decimal
decimal_seven = refl

decimal_ten : decimal 10 ≡ 49 ∷ 48 ∷ []
unfolding decimal
decimal_ten = refl

largest : decimal 18446744073709551615 ≡ 49 ∷ 56 ∷ 52 ∷ 52 ∷ 54 ∷ 55 ∷ 52 ∷ 52 ∷ 48 ∷ 55 ∷ 51 ∷ 55 ∷ 48 ∷ 57 ∷ 53 ∷ 53 ∷ 49 ∷ 54 ∷ 49 ∷ 53 ∷ []
unfolding decimal
largest = refl

-- +5
plus_five : number_of (43 ∷ 53 ∷ []) ≡ Some 5
plus_five = refl

-- -0
minus_zero : number_of (45 ∷ 48 ∷ []) ≡ None
minus_zero = refl

empty : number_of [] ≡ None
empty = refl

plus : number_of (43 ∷ []) ≡ None
plus = refl

-- ++1
two_pluses : number_of (43 ∷ 43 ∷ 49 ∷ []) ≡ None
two_pluses = refl

-- 00012
leading_zeros : number_of (48 ∷ 48 ∷ 48 ∷ 49 ∷ 50 ∷ []) ≡ Some 12
leading_zeros = refl

largest_read : number_of (decimal 18446744073709551615) ≡ Some 18446744073709551615
unfolding decimal
largest_read = refl

too_large : number_of (decimal 18446744073709551616) ≡ None
unfolding decimal
too_large = refl

-- 12 in a12b, and nothing past its end
in_text : digits_at (97 ∷ 49 ∷ 50 ∷ 98 ∷ []) 1 ≡ record { len = 2; value = Some 12 }
in_text = refl

past_end : digits_at (97 ∷ 49 ∷ 50 ∷ 98 ∷ []) 9 ≡ record { len = 0; value = Some 0 }
past_end = refl
