-- Laws of the stack in a buffer.
use Prim.Native.Nat.{ℕ, zero, suc, ◌+◌, ◌-◌, ◌≤◌, ◌<◌}
use native.Mathlib.Omega.{arith}
use native.Mathlib.Numerals.{add-one, sub-one}
use mathlib.Core.Path.{◌≡◌, refl, ap, ◌∙◌}
use mathlib.Core.List.{List, ◌∷◌, reverse, reverse-cons}
use lib.ListN.{length, get_or, set, take}
use lib.Seq.{get_or-set_same, get_or-set_other, take-suc}
use Rattle.base.specs.Code.Stack.{stack_of}

pub length_stack : (s : List ℕ) (n : ℕ) → length (stack_of s n) ≡ n
unfolding stack_of
length_stack s zero = refl
length_stack s (suc n) = ap suc (length_stack s n)

-- a store at or above the items
pub stack_set : (s : List ℕ) (i a n : ℕ) → n ≤ i → stack_of (set s i a) n ≡ stack_of s n
unfolding stack_of
stack_set s i a zero h = refl
stack_set s i a (suc n) h = rw (get_or-set_other s i n a 0 (omega arith), stack_set s i a n (omega arith))

pub stack_push : (s : List ℕ) (n a : ℕ) → n < length s → stack_of (set s n a) (n + 1) ≡ a ∷ stack_of s n
unfolding stack_of
stack_push s n a h = rw (add-one, get_or-set_same s n a 0 h, stack_set s n a n (omega arith))

pub stack_pop : (s : List ℕ) (n : ℕ) → 1 ≤ n → stack_of s n ≡ get_or s (n - 1) 0 ∷ stack_of s (n - 1)
unfolding stack_of
stack_pop s zero h = absurd (omega arith)
stack_pop s (suc n) h = rw sub-one refl

pub reverse_stack : (s : List ℕ) (n : ℕ) → n ≤ length s → reverse (stack_of s n) ≡ take n s
unfolding stack_of
reverse_stack s zero h = refl
reverse_stack s (suc n) h = reverse-cons (get_or s n 0) (stack_of s n) ∙ rw (reverse_stack s n (omega arith), take-suc s n 0 h)
