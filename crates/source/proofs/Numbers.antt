-- Laws of the number that a text starts with, by its digits.
use Rattle.std.specs.Prelude.{Some, None, Ok, Err, ok_or}
use Prim.Native.Nat.{ℕ, ◌^◌}
use mathlib.Core.Path.{◌≡◌, refl}
use mathlib.Core.List.{List, [], ◌∷◌}
use mathlib.Core.Bool.{Bool, true, false, cond}
use native.Mathlib.Omega.{arith}
use lib.Dec.{ltb}
use lib.ListN.{length}
use Rattle.decimal.specs.Decimal.{value}
use Rattle.decimal.specs.Code.Digits.{capped}
use Rattle.source.specs.Vector.{of_digits}
use Rattle.source.specs.declared.vector.KeyError.TheVariants.{NoDigit, TooLarge}

pub no_digit : (ds : List ℕ) → length ds ≡ 0 → of_digits ds ≡ Err NoDigit
no_digit [] e = refl
no_digit (d ∷ ds) e = absurd (omega arith)

pub some_digits : (ds : List ℕ) → (length ds ≡ 0 → ⊥) → of_digits ds ≡ ok_or (capped (value ds)) TooLarge
some_digits [] h = absurd (h refl)
some_digits (d ∷ ds) h = either (value (d ∷ ds)) (ltb (value (d ∷ ds)) (2 ^ 64))
  where
    either : (n : ℕ) (b : Bool) → cond b (Ok n) (Err TooLarge) ≡ ok_or (cond b (Some n) None) TooLarge
    either n true = refl
    either n false = refl
