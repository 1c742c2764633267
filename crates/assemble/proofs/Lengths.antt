-- How long a message is.
use Prim.Native.Nat.{ℕ, zero, suc, ◌^◌, ◌<◌, ◌≤◌, max}
use mathlib.Core.Path.{◌≡◌, refl}
use mathlib.Core.List.{List, [], ◌∷◌, ◌++◌}
use native.Mathlib.Omega.{arith}
use lib.ListN.{length, get_or, length-append}
use Rattle.base.specs.Range.{within}
use Rattle.base.specs.Ascii.{ascii}
use Rattle.base.proofs.Tests.{by_bool}
use Rattle.decimal.specs.Decimal.{decimal}
use Rattle.decimal.proofs.Laws.{length_word}
use Rattle.assemble.specs.Message.{words, words_of, key_text, carried_text, message_of}

abbrev longest : List (List ℕ) → ℕ
longest [] = 0
longest (w ∷ ws) = max (length w) (longest ws)

one_short : (ws : List (List ℕ)) (n : ℕ) → length (get_or ws n []) ≤ longest ws
one_short [] n = omega arith
one_short (w ∷ ws) zero = omega arith
one_short (w ∷ ws) (suc n) = let h = one_short ws n in omega arith

words_short : (n : ℕ) → length (words_of n) ≤ 66
words_short zero = omega arith
words_short (suc n) = let e : longest words ≡ 65 = refl in omega (arith, one_short words n)

key_short : (place : ℕ) → place < 2 ^ 64 → length (key_text place) ≤ 20
key_short zero h = omega arith
key_short (suc n) h = length_word (suc n) h

carried_short : (number value : ℕ) → value < 2 ^ 64 → length (carried_text number value) ≤ 27
carried_short number value h =
    by_bool (within 8 11 number)
    (λ e. rw e (omega (arith, length-append (ascii ", key ") (key_text value), key_short value h)))
    (λ e. rw e (by_bool (within 12 20 number)
    (λ f. rw f (omega (arith, length-append (ascii ", line ") (decimal value), length_word value h)))
    (λ f. rw f (omega arith))))

pub message_short : (number value : ℕ) → number < 2 ^ 64 → value < 2 ^ 64 → length (message_of number value) ≤ 128
message_short number value h k =
    let a = ascii "assemble: " ++ decimal number in
    let b = a ++ ascii ": " in
    let d = b ++ words_of number in
    let e = d ++ carried_text number value in
    omega (
      arith,
      length-append e (10 ∷ []),
      length-append d (carried_text number value),
      length-append b (words_of number),
      length-append a (ascii ": "),
      length-append (ascii "assemble: ") (decimal number),
      length_word number h,
      words_short number,
      carried_short number value k,
    )
