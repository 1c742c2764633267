-- Digits written over a buffer.
use Rattle.std.specs.Prelude.{Some, None}
use Prim.Native.Nat.{ℕ, ◌+◌, ◌-◌, ◌/◌, ◌%◌, ◌<◌, ◌≤◌}
use mathlib.Core.Path.{◌≡◌, sym, ap, ◌∙◌}
use mathlib.Core.List.{List, [], ◌∷◌, ◌++◌}
use borrow.Author.Tests.{le-leb, lt-leb}
use native.Mathlib.Omega.{arith}
use lib.ListN.{length, set, length-set}
use Rattle.base.specs.Overwrite.{overwrite}
use Rattle.base.proofs.Overwrite.{overwrite_one, overwrite_last}
use Rattle.decimal.specs.Decimal.{decimal}
use Rattle.decimal.specs.Code.Digits.{written_at, buffer_after}
use Rattle.decimal.proofs.Laws.{decimal_one, decimal_more, length_one, length_more, length_positive}

-- a number's digits from at on, of which the last one stands at i
pub record Ends (at n i : ℕ) (out : List ℕ) : Type 0 where
  pub inside : i < length out
  pub last : i + 1 ≡ at + length (decimal n)

pub writes_one : {at n i : ℕ} {out : List ℕ} → Ends at n i out → n < 10 → (b : ℕ) → b ≡ 48 + n → overwrite at (decimal n) out ≡ set out i b
writes_one {at} {n} {i} {out} e m b p =
    let k : at ≡ i = omega (arith, length_one n m) in
    ap (λ (bytes : List ℕ). overwrite at bytes out) (decimal_one n m ∙ ap (λ (a : ℕ). a ∷ []) (sym p))
    ∙ overwrite_one at b out (omega arith)
    ∙ ap (λ (j : ℕ). set out j b) k

pub left_one : {at n i : ℕ} {out : List ℕ} → Ends at n i out → 10 ≤ n → 1 ≤ i
left_one {at} {n} e m = omega (arith, length_more n m, length_positive (n / 10))

pub left_two : {at n i : ℕ} {out : List ℕ} → Ends at n i out → 100 ≤ n → 2 ≤ i
left_two {at} {n} e m = omega (arith, length_more n (omega arith), length_more (n / 10) (omega arith), length_positive (n / 10 / 10))

-- one digit less, then two
module _ {at n i : ℕ} {out : List ℕ} (e : Ends at n i out) (m : 10 ≤ n) (b : ℕ) where
  pub writes_more : b ≡ 48 + n % 10 → overwrite at (decimal n) out ≡ overwrite at (decimal (n / 10)) (set out i b)
  writes_more p =
      let k : at + length (decimal (n / 10)) ≡ i = omega (arith, length_more n m) in
      ap (λ (bytes : List ℕ). overwrite at bytes out) (decimal_more n m ∙ ap (λ (a : ℕ). decimal (n / 10) ++ a ∷ []) (sym p))
      ∙ overwrite_last at (decimal (n / 10)) b out (omega arith)
      ∙ ap (λ (j : ℕ). overwrite at (decimal (n / 10)) (set out j b)) k

  pub ends_more : Ends at (n / 10) (i - 1) (set out i b)
  ends_more = record { inside = simp length-set (omega arith); last = omega (arith, length_more n m, length_positive (n / 10)) }

module _ {at n i : ℕ} {out : List ℕ} (e : Ends at n i out) (m : 100 ≤ n) (b c : ℕ) where
  tens : n / 10 / 10 ≡ n / 100
  tens = omega arith

  pub writes_two : b ≡ 48 + n % 10 → c ≡ 48 + n / 10 % 10 → overwrite at (decimal n) out ≡ overwrite at (decimal (n / 100)) (set (set out i b) (i - 1) c)
  writes_two p q =
      writes_more e (omega arith) b p
      ∙ writes_more (ends_more e (omega arith) b) (omega arith) c q
      ∙ ap (λ (k : ℕ). overwrite at (decimal k) (set (set out i b) (i - 1) c)) tens

  pub ends_two : Ends at (n / 100) (i - 2) (set (set out i b) (i - 1) c)
  ends_two =
      let f = ends_more (ends_more e (omega arith) b) (omega arith) c in
      record { inside = omega arith; last = omega (arith, ap (λ (k : ℕ). length (decimal k)) tens, length_positive (n / 100)) }

-- whether a number fits
module _ (n at : ℕ) (out : List ℕ) where
  pub room : at + length (decimal n) ≤ length out → (Some (at + length (decimal n)) ≡ written_at n at (length out)) × (overwrite at (decimal n) out ≡ buffer_after n at out)
  room h = let e = le-leb (at + length (decimal n)) (length out) h in (simp e, simp e)

  pub no_room : length out < at + length (decimal n) → (None ≡ written_at n at (length out)) × (out ≡ buffer_after n at out)
  no_room h = let e = lt-leb (at + length (decimal n)) (length out) h in (simp e, simp e)
