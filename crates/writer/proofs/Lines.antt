-- Laws of the line of an operation: of a word, a number and a line feed, and by the number of its kind.
use Prim.Native.Nat.{ℕ, ◌+◌, ◌≤◌}
use mathlib.Core.Path.{◌≡◌}
use mathlib.Core.List.{List, [], ◌∷◌, ◌++◌}
use native.Mathlib.Omega.{arith}
use lib.ListN.{length, length-append}
use Rattle.decimal.specs.Decimal.{decimal}
use Rattle.writer.specs.Code.Overwrites.{Overwrites}
use Rattle.writer.proofs.Pieces.{overwrites_length, overwrites_then}

pub line_length : (word : List ℕ) (n : ℕ) → length (word ++ decimal n ++ 10 ∷ []) ≡ length word + length (decimal n) + 1
line_length word n = omega (arith, length-append (word ++ decimal n) (10 ∷ []), length-append word (decimal n))

module _ (n : ℕ) {word out a : List ℕ} {at i : ℕ} (w : Overwrites out at word a i) (h : at + length (word ++ decimal n ++ 10 ∷ []) ≤ length out) where
  word_fits : at + length word ≤ length out
  word_fits = omega (arith, line_length word n)

  pub number_fits : i + length (decimal n) ≤ length a
  number_fits = omega (arith, line_length word n, w.next, overwrites_length w word_fits)

  module _ {b : List ℕ} {j : ℕ} (d : Overwrites a i (decimal n) b j) where
    pub line_whole : {after : List ℕ} {r : ℕ} → Overwrites b j (10 ∷ []) after r → Overwrites out at (word ++ decimal n ++ 10 ∷ []) after r
    line_whole f = overwrites_then (overwrites_then w word_fits d) (omega (arith, line_length word n, length-append word (decimal n))) f
