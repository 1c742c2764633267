-- Laws of `decimal`: a number's digits.
use Rattle.std.specs.Prelude.{Some}
use Prim.Native.Nat.{max, ℕ, zero, suc, ◌+◌, ◌-◌, ◌*◌, ◌/◌, ◌%◌, ◌^◌, ◌<◌, ◌≤◌}
use mathlib.Core.Path.{◌≡◌, refl, sym, ap, ◌∙◌}
use mathlib.Core.List.{List, [], ◌∷◌, ◌++◌}
use mathlib.Core.Bool.{true}
use borrow.Author.Tests.{lt-ltb, le-ltb}
use native.Mathlib.Omega.{arith}
use native.Mathlib.Nat.{pow-suc}
use lib.ListN.{length, get_or, length-append, get_or-append}
use Rattle.base.specs.Lists.{all}
use Rattle.base.proofs.Tests.{by_leb, inside, between, and_both}
use Rattle.base.proofs.Lists.{all_behind, all_at}
use Rattle.decimal.specs.Decimal.{digit, value_from, value, from_digits, number_of, decimal_with, decimal}
use Rattle.decimal.proofs.FromStr.{not_signed}

-- any fuel above the number is enough
enough : (f g n : ℕ) → n < f → n < g → decimal_with f n ≡ decimal_with g n
enough zero g n p q = absurd (omega arith)
enough (suc f) zero n p q = absurd (omega arith)
enough (suc f) (suc g) n p q =
    by_leb 10 n
    (λ h. simp (le-ltb n 10 h) (ap (λ (s : List ℕ). s ++ (48 + n % 10) ∷ []) (enough f g (n / 10) (omega arith) (omega arith))))
    (λ h. simp (lt-ltb n 10 h))

pub decimal_one : (n : ℕ) → n < 10 → decimal n ≡ (48 + n) ∷ []
unfolding decimal
decimal_one n h = simp (lt-ltb n 10 h)

pub decimal_more : (n : ℕ) → 10 ≤ n → decimal n ≡ decimal (n / 10) ++ (48 + n % 10) ∷ []
unfolding decimal
decimal_more n h = simp (le-ltb n 10 h) (ap (λ (s : List ℕ). s ++ (48 + n % 10) ∷ []) (enough n (suc (n / 10)) (n / 10) (omega arith) (omega arith)))

-- what holds of the numbers of one digit, and goes over to those with one digit more, holds of every number
pub by_digits : (P : ℕ → Type 0) → ((n : ℕ) → n < 10 → P n) → ((n : ℕ) → 10 ≤ n → P (n / 10) → P n) → (n : ℕ) → P n
by_digits P one more n = go (suc n) n (omega arith)
  where
    go : (f n : ℕ) → n < f → P n
    go zero n h = absurd (omega arith)
    go (suc f) n h = by_leb 10 n (λ e. more n e (go f (n / 10) (omega arith))) (λ e. one n e)

value_from_snoc : (acc : ℕ) (s : List ℕ) (a : ℕ) → value_from acc (s ++ a ∷ []) ≡ value_from acc s * 10 + (a - 48)
value_from_snoc acc [] a = refl
value_from_snoc acc (b ∷ s) a = value_from_snoc (acc * 10 + (b - 48)) s a

pub value-decimal : (n : ℕ) → value (decimal n) ≡ n
value-decimal =
    by_digits (λ n. value (decimal n) ≡ n)
    (λ n h. ap value (decimal_one n h) ∙ omega arith)
    (λ n h e. ap value (decimal_more n h) ∙ value_from_snoc 0 (decimal (n / 10)) (48 + n % 10) ∙ omega arith)

-- every byte of a number is a digit
snoc : (s : List ℕ) (a : ℕ) → all digit s ≡ true → digit a ≡ true → all digit (s ++ a ∷ []) ≡ true
snoc s a e d = all_behind digit s (a ∷ []) e ∙ and_both (digit a) true d refl

pub decimal-digits : (n : ℕ) → all digit (decimal n) ≡ true
decimal-digits =
    by_digits (λ n. all digit (decimal n) ≡ true)
    (λ n h. ap (all digit) (decimal_one n h) ∙ snoc [] (48 + n) refl (inside 48 57 (48 + n) (omega arith) (omega arith)))
    (λ n h e. ap (all digit) (decimal_more n h) ∙ snoc (decimal (n / 10)) (48 + n % 10) e (inside 48 57 (48 + n % 10) (omega arith) (omega arith)))

pub digit-decimal : (n i : ℕ) → i < length (decimal n) → digit (get_or (decimal n) i 0) ≡ true
digit-decimal n i h = all_at digit (decimal n) i (decimal-digits n) h

pub between_decimal : (n i : ℕ) → i < length (decimal n) → (48 ≤ get_or (decimal n) i 0) × (get_or (decimal n) i 0 ≤ 57)
between_decimal n i h = between 48 57 (get_or (decimal n) i 0) (digit-decimal n i h)

-- how many digits
pub length_one : (n : ℕ) → n < 10 → length (decimal n) ≡ 1
length_one n h = ap length (decimal_one n h)

pub length_more : (n : ℕ) → 10 ≤ n → length (decimal n) ≡ length (decimal (n / 10)) + 1
length_more n h = ap length (decimal_more n h) ∙ length-append (decimal (n / 10)) ((48 + n % 10) ∷ [])

pub length_four_more : (n : ℕ) → 10000 ≤ n → length (decimal n) ≡ length (decimal (n / 10000)) + 4
length_four_more n h =
    let e : n / 10 / 10 / 10 / 10 ≡ n / 10000 = omega arith in
    omega (
      arith,
      length_more n (omega arith),
      length_more (n / 10) (omega arith),
      length_more (n / 10 / 10) (omega arith),
      length_more (n / 10 / 10 / 10) (omega arith),
      ap (λ (m : ℕ). length (decimal m)) e,
    )

pub length_positive : (n : ℕ) → 0 < length (decimal n)
length_positive n = by_leb 10 n (λ h. omega (arith, length_more n h)) (λ h. omega (arith, length_one n h))

length_below : (k n : ℕ) → n < 10 ^ suc k → length (decimal n) ≤ suc k
length_below zero n h = omega (arith, length_one n (omega arith))
length_below (suc k) n h =
    by_leb 10 n
    (λ e. let i = length_below k (n / 10) (omega (arith, pow-suc 10 (suc k))) in omega (arith, length_more n e))
    (λ e. omega (arith, length_one n e))

length_from : (k n : ℕ) → 10 ^ k ≤ n → k < length (decimal n)
length_from zero n h = length_positive n
length_from (suc k) n h =
    let m : 10 ^ k ≤ n / 10 = omega (arith, pow-suc 10 k) in
    let i = length_from k (n / 10) m in
    let p : 10 ≤ n = omega (arith, pow-suc 10 k, pow-positive k) in
    omega (arith, length_more n p)
  where
    pow-positive : (k : ℕ) → 0 < 10 ^ k
    pow-positive zero = omega arith
    pow-positive (suc k) = omega (arith, pow-suc 10 k, pow-positive k)

-- by the logarithm; 0 has one digit, as 1 has
pub length_log : (n k : ℕ) → 10 ^ k ≤ max n 1 → max n 1 < 10 * 10 ^ k → length (decimal n) ≡ k + 1
length_log zero k h m = omega (arith, length_from k 1 h, length_one 1 (omega arith), length_one 0 (omega arith))
length_log (suc n) k h m =
    let e : max (suc n) 1 ≡ suc n = omega arith in
    omega (arith, length_from k (suc n) (omega arith), length_below k (suc n) (omega (arith, pow-suc 10 k)))

pub length_word : (n : ℕ) → n < 2 ^ 64 → length (decimal n) ≤ 20
length_word n h = length_below 19 n (omega arith)

-- no leading zero
first_more : (n : ℕ) → 10 ≤ n → get_or (decimal n) 0 0 ≡ get_or (decimal (n / 10)) 0 0
first_more n h =
    ap (λ (s : List ℕ). get_or s 0 0) (decimal_more n h)
    ∙ get_or-append (decimal (n / 10)) ((48 + n % 10) ∷ []) 0 0 (length_positive (n / 10))

pub first_zero : (n : ℕ) → get_or (decimal n) 0 0 ≡ 48 → n ≡ 0
first_zero =
    by_digits (λ n. get_or (decimal n) 0 0 ≡ 48 → n ≡ 0)
    (λ n h e. omega (arith, ap (λ (s : List ℕ). get_or s 0 0) (decimal_one n h)))
    (λ n h r e. absurd (let z = r (sym (first_more n h) ∙ e) in omega arith))

-- what is written is read again
pub round_trip : (n : ℕ) → n < 2 ^ 64 → number_of (decimal n) ≡ Some n
round_trip n h =
    let b = between_decimal n 0 (length_positive n) in
    ap from_digits (sym (not_signed (decimal n) (λ rest e. omega (arith, ap (λ (s : List ℕ). get_or s 0 0) e))))
    ∙ simp (lt-ltb 0 (length (decimal n)) (length_positive n), decimal-digits n, value-decimal n, lt-ltb n (2 ^ 64) h)
