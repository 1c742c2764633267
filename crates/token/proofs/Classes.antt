-- The classes of bytes are apart.
use Prim.Native.Nat.{ℕ, ◌≤◌}
use mathlib.Core.Path.{◌≡◌}
use mathlib.Core.Bool.{Bool, true, false, ◌&&◌, ◌||◌, and-false}
use native.Mathlib.Omega.{arith}
use borrow.Author.Tests.{eqb-true}
use lib.Dec.{eqb}
use Rattle.base.specs.Range.{within}
use Rattle.base.proofs.Tests.{by_bool, by_or, and_right, or_by_left, or_by_right, between}
use Rattle.decimal.specs.Decimal.{digit}
use Rattle.token.specs.Token.{space, name_start, name_part, sign}
use Rattle.token.specs.Code.Bytes.{allowed_byte, goes_on}

-- bytes that part tokens come first, then most signs, digits, `<`, letters
pub space-bound : (a : ℕ) → space a ≡ true → a ≤ 32
space-bound a e =
    by_or (within 9 10 a || within 12 13 a) (eqb a 32) e
    (λ p. by_or (within 9 10 a) (within 12 13 a) p (λ q. let b = between 9 10 a q in omega arith) (λ q. let b = between 12 13 a q in omega arith))
    (λ p. let q = eqb-true a 32 p in omega arith)

-- a sign is from 40 to 47, or 60
pub sign_bounds : {P : Type 0} (a : ℕ) → sign a ≡ true → (40 ≤ a → a ≤ 47 → P) → (a ≡ 60 → P) → P
sign_bounds a e low less =
    by_or (within 40 43 a || eqb a 45 || eqb a 47) (eqb a 60) e
    (λ p. by_or (within 40 43 a || eqb a 45) (eqb a 47) p
    (λ q. by_or (within 40 43 a) (eqb a 45) q (λ r. let b = between 40 43 a r in low (omega arith) (omega arith)) (λ r. let b = eqb-true a 45 r in low (omega arith) (omega arith)))
    (λ q. let b = eqb-true a 47 q in low (omega arith) (omega arith)))
    (λ p. less (eqb-true a 60 p))

pub start-bound : (a : ℕ) → name_start a ≡ true → 65 ≤ a
start-bound a e =
    by_or (within 65 90 a || within 97 122 a) (eqb a 95) e
    (λ p. by_or (within 65 90 a) (within 97 122 a) p (λ q. let b = between 65 90 a q in omega arith) (λ q. let b = between 97 122 a q in omega arith))
    (λ p. let q = eqb-true a 95 p in omega arith)

pub not_so : (p : Bool) → (p ≡ true → ⊥) → p ≡ false
not_so p h = by_bool p (λ e. absurd (h e)) (λ e. e)

part_bound : (a : ℕ) → name_part a ≡ true → 48 ≤ a
part_bound a e = by_or (name_start a) (digit a) e (λ p. let b = start-bound a p in omega arith) (λ p. let b = between 48 57 a p in omega arith)

-- no byte that parts tokens goes on with one
pub goes_no_space : (a b : ℕ) → goes_on a b ≡ true → space b ≡ false
goes_no_space a b e =
    let h : 48 ≤ b =
    by_or (digit a && digit b) (name_start a && name_part b) e
    (λ p. let x = between 48 57 b (and_right (digit a) (digit b) p) in omega arith)
    (λ p. part_bound b (and_right (name_start a) (name_part b) p)) in
    not_so (space b) (λ q. let x = space-bound b q in omega arith)

-- no token goes on past the text's end, where a place reads 0
pub goes_on_end : (a : ℕ) → goes_on a 0 ≡ false
goes_on_end a = simp and-false

pub goes_on_equals : (a : ℕ) → goes_on a 61 ≡ false
goes_on_equals a = simp and-false

-- bytes of names and digits are in a token whatever stands beside them
pub part_allowed : (a : ℕ) → name_part a ≡ true → allowed_byte a ≡ true
part_allowed a e = or_by_left (space a || name_part a) (sign a) (or_by_right (space a) (name_part a) e)

pub digit_allowed : (a : ℕ) → digit a ≡ true → allowed_byte a ≡ true
digit_allowed a e = part_allowed a (or_by_right (name_start a) (digit a) e)
