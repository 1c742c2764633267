-- The number that a vector holds for a key. Every search takes the first occurrence; the vector is not read as JSON.
use Rattle.std.specs.Prelude.{Result, Ok, Err}
use Rattle.std.specs.Prelude.{ℕ, ◌+◌, ◌^◌, List, [], ◌∷◌, cond, ltb, length, drop}
use Rattle.base.specs.Ascii.{ascii}
use Rattle.base.specs.Lists.{take_while}
use Rattle.numbered.specs.declared.Numbered.{Numbered}
use Rattle.numbered.specs.Numbered.{plain, size_numbered, result_numbered}
use Rattle.search.specs.First.{first_at}
use Rattle.trim.specs.Trim.{start_trimmed}
use Rattle.decimal.specs.Decimal.{digit, value}
use Rattle.source.specs.Found.{found_or}
use Rattle.key.specs.Key.{quoted}
use Rattle.source.specs.declared.vector.KeyError.{KeyError}
use Rattle.source.specs.declared.vector.KeyError.TheVariants.{NoKey, NoColon, NoDigit, TooLarge}

-- the number that digits write, where there are any and it is below 2 ^ 64
abbrev pub of_digits : List ℕ → Result ℕ KeyError
of_digits [] = Err NoDigit
of_digits (d ∷ ds) = cond (ltb (value (d ∷ ds)) (2 ^ 64)) (Ok (value (d ∷ ds))) (Err TooLarge)

-- the first occurrence of the key in double quotes, the first `:` after it, White_Space, digits
abbrev pub vector_number : List ℕ → List ℕ → Result ℕ KeyError
vector_number s key =
    found_or (first_at (quoted key) s 0) (Err NoKey) (λ at.
    found_or (first_at (ascii ":") s (at + length (quoted key))) (Err NoColon) (λ colon.
    of_digits (take_while digit (start_trimmed (drop (colon + 1) s)))))

-- document 01's number of each case; the place of the key is the caller's to add
abbrev pub key_error_numbered : KeyError → Numbered
key_error_numbered NoKey = plain 8
key_error_numbered NoColon = plain 9
key_error_numbered NoDigit = plain 10
key_error_numbered TooLarge = plain 11

abbrev pub key_value_numbered : Result ℕ KeyError → Numbered
key_value_numbered = result_numbered size_numbered key_error_numbered
