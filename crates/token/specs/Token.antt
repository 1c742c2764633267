-- The tokens of an expression: digit runs; names, an ASCII letter or `_` and then those or digits; signs; `==`. A token is its bytes.
use Rattle.std.specs.Prelude.{ℕ, List, [], ◌∷◌, ◌++◌, Bool, true, false, ◌&&◌, ◌||◌, eqb}
use Rattle.base.specs.Range.{within}
use Rattle.base.specs.Ascii.{ascii}
use Rattle.base.specs.Equal.{equal}
use Rattle.base.specs.Texts.{unless_empty}
use Rattle.decimal.specs.Decimal.{digit}

-- tab, line feed, form feed, carriage return, space
abbrev pub space : ℕ → Bool
space a = within 9 10 a || within 12 13 a || eqb a 32

abbrev pub name_start : ℕ → Bool
name_start a = within 65 90 a || within 97 122 a || eqb a 95

abbrev pub name_part : ℕ → Bool
name_part a = name_start a || digit a

-- ( ) * + and - and / and <
abbrev pub sign : ℕ → Bool
sign a = within 40 43 a || eqb a 45 || eqb a 47 || eqb a 60

-- whether every byte parts tokens or is in one; a `=` is in one as the first or the second byte of `==`
abbrev mutual
  pub allowed : List ℕ → Bool
  allowed [] = true
  allowed (a ∷ s) = elim (eqb a 61) [ true ↦ paired s | false ↦ (space a || name_part a || sign a) && allowed s ]

  pub paired : List ℕ → Bool
  paired [] = false
  paired (b ∷ s) = eqb b 61 && allowed s

-- whether b goes on with the token w: digits go on with digits, a name with letters, `_` and digits, a `=` that is alone with a second one
abbrev pub extends : List ℕ → ℕ → Bool
extends [] b = false
extends (a ∷ w) b = (digit a && digit b) || (name_start a && name_part b) || (equal (a ∷ w) (ascii "=") && eqb b 61)

-- the tokens where w is read of the first; where nothing was read there is none
unfoldable pub scan : List ℕ → List ℕ → List (List ℕ)
scan w [] = unless_empty w []
scan w (a ∷ s) = elim (extends w a) [
  | true ↦ scan (w ++ a ∷ []) s
  | false ↦ unless_empty w (elim (space a) [ true ↦ scan [] s | false ↦ scan (a ∷ []) s ])
]

abbrev pub tokens : List ℕ → List (List ℕ)
tokens s = scan [] s
