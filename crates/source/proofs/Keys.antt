-- Laws of the vector's number, by what each search finds.
use Rattle.std.specs.Prelude.{Some, None, Err}
use Prim.Native.Nat.{ℕ, ◌+◌}
use mathlib.Core.Path.{◌≡◌}
use mathlib.Core.List.{List}
use lib.ListN.{length, drop}
use Rattle.base.specs.Ascii.{ascii}
use Rattle.base.specs.Lists.{take_while}
use Rattle.search.specs.First.{first_at}
use Rattle.trim.specs.Trim.{start_trimmed}
use Rattle.decimal.specs.Decimal.{digit}
use Rattle.key.specs.Key.{quoted}
use Rattle.source.specs.Vector.{of_digits, vector_number}
use Rattle.source.specs.declared.vector.KeyError.TheVariants.{NoKey, NoColon}

module _ (s key : List ℕ) where
  pub no_key : first_at (quoted key) s 0 ≡ None → vector_number s key ≡ Err NoKey
  no_key e = rw e

  module _ (at : ℕ) (e : first_at (quoted key) s 0 ≡ Some at) where
    pub no_colon : first_at (ascii ":") s (at + length (quoted key)) ≡ None → vector_number s key ≡ Err NoColon
    no_colon f = rw (e, f)

    pub number_behind : (colon : ℕ) → first_at (ascii ":") s (at + length (quoted key)) ≡ Some colon → vector_number s key ≡ of_digits (take_while digit (start_trimmed (drop (colon + 1) s)))
    number_behind colon f = rw (e, f)
