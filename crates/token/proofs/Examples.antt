-- Tokens of worked texts.
use mathlib.Core.Path.{◌≡◌, refl}
use mathlib.Core.List.{[], ◌∷◌}
use mathlib.Core.Bool.{true, false}
use Rattle.std.specs.Prelude.{Some, None}
use Rattle.base.specs.Ascii.{ascii}
use Rattle.token.specs.Token.{allowed, scan, tokens}
use Rattle.token.specs.Code.Places.{token_at}

-- ` 12ab_3(*` and a line feed
mixed : tokens (32 ∷ 49 ∷ 50 ∷ 97 ∷ 98 ∷ 95 ∷ 51 ∷ 40 ∷ 42 ∷ 10 ∷ []) ≡ (49 ∷ 50 ∷ []) ∷ (97 ∷ 98 ∷ 95 ∷ 51 ∷ []) ∷ (40 ∷ []) ∷ (42 ∷ []) ∷ []
unfolding scan
mixed = refl

-- `a +7`, from the second byte on
placed : token_at (97 ∷ 32 ∷ 43 ∷ 55 ∷ []) 1 ≡ Some (record { start = 2; end = 3 })
unfolding scan
placed = refl

no_more : token_at (97 ∷ 32 ∷ []) 1 ≡ None
unfolding scan
no_more = refl

-- `a;` has a byte in no token, and so has a vertical tab
semicolon : allowed (97 ∷ 59 ∷ []) ≡ false
semicolon = refl

vertical_tab : allowed (49 ∷ 11 ∷ []) ≡ false
vertical_tab = refl

spaces : allowed (9 ∷ 10 ∷ 12 ∷ 13 ∷ 32 ∷ 97 ∷ []) ≡ true
spaces = refl

-- `a<b==c`, and runs of `=`
comparing : tokens (ascii "a<b==c") ≡ ascii "a" ∷ ascii "<" ∷ ascii "b" ∷ ascii "==" ∷ ascii "c" ∷ []
unfolding scan
comparing = refl

four : tokens (ascii "====") ≡ ascii "==" ∷ ascii "==" ∷ []
unfolding scan
four = refl

four_allowed : allowed (ascii "====") ≡ true
four_allowed = refl

three : allowed (ascii "===") ≡ false
three = refl

one : allowed (ascii "a = b") ≡ false
one = refl

parted : allowed (ascii "= =") ≡ false
parted = refl

less_equal : allowed (ascii "<=") ≡ false
less_equal = refl

less_equals : tokens (ascii "<==") ≡ ascii "<" ∷ ascii "==" ∷ []
unfolding scan
less_equals = refl
