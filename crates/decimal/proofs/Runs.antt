-- The digits from a place on: one after the other, where they end, and the number that they write.
use Rattle.std.specs.Prelude.{Option, Some, None}
use Prim.Native.Nat.{zero, suc, ℕ, ◌+◌, ◌-◌, ◌*◌, ◌^◌, ◌<◌, ◌≤◌}
use mathlib.Core.Path.{◌≡◌, refl, sym, ap, ap₂, ◌∙◌}
use mathlib.Core.List.{List, [], ◌∷◌}
use mathlib.Core.Bool.{true, ◌&&◌, false}
use borrow.Author.Tests.{lt-ltb, le-ltb, eqb-true}
use native.Mathlib.Omega.{arith}
use lib.ListN.{length, get_or, take, drop, length-drop}
use lib.Seq.{drop-drop}
use Rattle.std.specs.List.{prefix_len}
use Rattle.std.specs.Simd.{first_chunks}
use Rattle.base.specs.Lists.{all, take_while}
use Rattle.base.proofs.Tests.{by_bool, and_left, and_right, between}
use Rattle.base.proofs.Parts.{drop_cons_at}
use lib.Dec.{eqb}
use Rattle.base.proofs.Lists as lists
use Rattle.base.proofs.Lists.{length-take_while, take_while_more, take_while_none, end_from, passes_inside, end_more}
use Rattle.decimal.specs.Decimal.{digit, value_from, value}
use Rattle.decimal.specs.Code.Digits.{capped, digits_at}
use Rattle.decimal.specs.Code.Zeros.{ZerosTo}
use Rattle.decimal.specs.declared.Digits.{Digits}

-- a digit stands at a place
pub record DigitAt (s : List ℕ) (i : ℕ) : Type 0 where
  pub is : digit (get_or s i 0) ≡ true
  pub inside : i < length s
  pub low : 48 ≤ get_or s i 0
  pub high : get_or s i 0 ≤ 57

pub digit_at : (s : List ℕ) (i : ℕ) → digit (get_or s i 0) ≡ true → DigitAt s i
digit_at s i e =
    let b = between 48 57 (get_or s i 0) e in
    record { is = e; inside = passes_inside digit refl s i e; low = b.0; high = b.1 }

-- one digit more
module _ {s : List ℕ} {i : ℕ} (d : DigitAt s i) where
  more : take_while digit (drop i s) ≡ get_or s i 0 ∷ take_while digit (drop (i + 1) s)
  more = take_while_more digit s i d.inside d.is

  pub value_more : (acc : ℕ) → value_from acc (take_while digit (drop i s)) ≡ value_from (acc * 10 + (get_or s i 0 - 48)) (take_while digit (drop (i + 1) s))
  value_more acc = ap (value_from acc) more

-- no digit more
pub value_none : (s : List ℕ) (i : ℕ) → digit (get_or s i 0) ≡ false → (acc : ℕ) → value_from acc (take_while digit (drop i s)) ≡ acc
value_none s i e acc = ap (value_from acc) (take_while_none digit s i e)

pub end_none : (s : List ℕ) (i : ℕ) → digit (get_or s i 0) ≡ false → end_from digit s i ≡ i
end_none = lists.end_none digit

-- zeros are passed
pub no_zeros : (s : List ℕ) (at end : ℕ) → end ≡ at → ZerosTo s at end
no_zeros s at end e = rw e (record { on = omega arith; stop = refl; same = refl })

pub more_zeros : (s : List ℕ) (at i end : ℕ) → ZerosTo s at i → ZerosTo s i end → ZerosTo s at end
more_zeros s at i end x y = let h = x.on in let k = y.on in record { on = omega arith; stop = x.stop ∙ y.stop; same = x.same ∙ y.same }

pub one_zero : (s : List ℕ) (i j : ℕ) → i < length s → get_or s i 0 ≡ 48 → j ≡ i + 1 → ZerosTo s i j
one_zero s i j h e n =
    let d = digit_at s i (ap digit e) in
    rw n
    (record {
      on = omega arith;
      stop = end_more digit refl s i d.is;
      same = value_more d 0 ∙ ap (λ (a : ℕ). value_from (0 * 10 + (a - 48)) (take_while digit (drop (i + 1) s))) e;
    })

pub zeros_passed : (s : List ℕ) (n at : ℕ) → at + n ≤ length s → all (λ c. eqb c 48) (take n (drop at s)) ≡ true → ZerosTo s at (at + n)
zeros_passed s zero at h e = no_zeros s at (at + 0) (omega arith)
zeros_passed s (suc n) at h e =
    let d : take (suc n) (drop at s) ≡ get_or s at 0 ∷ take n (drop (at + 1) s) = ap (take (suc n)) (drop_cons_at s at (at + 1) (omega arith) refl) in
    let z : (eqb (get_or s at 0) 48 && all (λ c. eqb c 48) (take n (drop (at + 1) s))) ≡ true = sym (ap (all (λ c. eqb c 48)) d) ∙ e in
    let m : at + 1 + n ≡ at + suc n = omega arith in
    let one = one_zero s at (at + 1) (omega arith) (eqb-true _ 48 (and_left _ _ z)) refl in
    let more = zeros_passed s n (at + 1) (omega arith) (and_right (eqb (get_or s at 0) 48) _ z) in
    rw (← m) (more_zeros s at (at + 1) (at + 1 + n) one more)

-- the blocks of zeros that come first
pub blocks_passed : (n : ℕ) (s : List ℕ) (k at : ℕ) → at + k * n ≤ length s → ZerosTo s at (at + n * prefix_len (all (λ c. eqb c 48)) (first_chunks n k (drop at s)))
blocks_passed n s zero at h = no_zeros s at (at + n * 0) (omega arith)
blocks_passed n s (suc k) at h =
    by_bool (all (λ c. eqb c 48) (take n (drop at s)))
    (λ e.
    let q = prefix_len (all (λ c. eqb c 48)) (first_chunks n k (drop (at + n) s)) in
    let z : at + n + n * q ≡ at + n * (1 + q) = omega arith in
    rw (e, drop-drop n at s, ← z) (more_zeros s at (at + n) (at + n + n * q) (zeros_passed s n at (omega arith) e) (blocks_passed n s k (at + n) (omega arith))))
    (λ e. rw e (no_zeros s at (at + n * 0) (omega arith)))

module _ (s : List ℕ) (at first : ℕ) (r : Digits) (z : ZerosTo s at first) (e : r ≡ digits_at s first) where
  behind_length : first - at + r.len ≡ length (take_while digit (drop at s))
  behind_length = let h = z.on in omega (arith, ap (λ (d : Digits). d.len) e, z.stop)

  pub behind_fits : first - at + r.len ≤ length s
  behind_fits = omega (arith, behind_length, length-take_while digit (drop at s), length-drop at s)

  pub behind_zeros : ◌≡◌ {A = Digits} (record { len = first - at + r.len; value = r.value }) (digits_at s at)
  behind_zeros = ap₂ (λ n v. record { len = n; value = v }) behind_length (ap (λ (d : Digits). d.value) e ∙ ap capped (sym z.same))

-- a value only grows
grows : (n : ℕ) (s : List ℕ) → n ≤ value_from n s
grows n [] = omega arith
grows n (a ∷ s) = let h = grows (n * 10 + (a - 48)) s in omega arith

pub fitting : (n : ℕ) → n < 2 ^ 64 → capped n ≡ Some n
fitting n h = simp (lt-ltb n (2 ^ 64) h)

pub over : (n : ℕ) (s : List ℕ) → 2 ^ 64 ≤ n → capped (value_from n s) ≡ None
over n s h = let g = grows n s in simp (le-ltb (value_from n s) (2 ^ 64) (omega arith))

pub answer : (s : List ℕ) (at end : ℕ) (v : Option ℕ) → end_from digit s at ≡ end → capped (value (take_while digit (drop at s))) ≡ v → ◌≡◌ {A = Digits} (record { len = end - at; value = v }) (digits_at s at)
answer s at end v p q = let n : end - at ≡ length (take_while digit (drop at s)) = omega arith in cc
