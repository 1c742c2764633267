-- What the code asks of single bytes, and the bytes of a token behind its first.
use Rattle.std.specs.Prelude.{ℕ, List, [], ◌∷◌, Bool, cond, ◌&&◌, ◌||◌, eqb}
use Rattle.base.specs.Lists.{take_while}
use Rattle.decimal.specs.Decimal.{digit}
use Rattle.token.specs.Token.{space, name_start, name_part, sign}

-- a byte that parts tokens or is in one whatever stands beside it
abbrev pub allowed_byte : ℕ → Bool
allowed_byte a = space a || name_part a || sign a

-- whether b goes on with digits or a name that start with a
abbrev pub goes_on : ℕ → ℕ → Bool
goes_on a b = (digit a && digit b) || (name_start a && name_part b)

-- the second byte of `==`, where there is one
abbrev pub second : List ℕ → List ℕ
second [] = []
second (b ∷ s) = cond (eqb b 61) (b ∷ []) []

-- what a token that starts with a has of the text behind it
abbrev pub rest : ℕ → List ℕ → List ℕ
rest a s = cond (eqb a 61) (second s) (take_while (goes_on a) s)
