-- What the operations make of the stack in its buffer.
use Rattle.std.proofs.Common.{◌≡◌, ℕ, zero, suc, ◌+◌, ◌-◌, ◌<◌, ◌≤◌, List, [], ◌∷◌, length, get_or, set, refl, arith, length-set, get_or-set_other, get_or-set_same}
use Rattle.base.specs.Code.Stack.{stack_of}
use Rattle.base.proofs.Stack.{stack_set, stack_push}

-- what a function makes of a stack with too few items
pub no_item : {A : Type 0} (f : List ℕ → A) (s : List ℕ) (n : ℕ) → n < 1 → f (stack_of s n) ≡ f []
unfolding stack_of
no_item f s zero h = refl
no_item f s (suc n) h = absurd (omega arith)

pub below_two : {A : Type 0} (f : List ℕ → A) (s : List ℕ) (n : ℕ) → n < 2 → ((b : ℕ) → f (b ∷ []) ≡ f []) → f (stack_of s n) ≡ f []
unfolding stack_of
below_two f s zero h e = refl
below_two f s (suc zero) h e = e (get_or s 0 0)
below_two f s (suc (suc n)) h e = absurd (omega arith)

pub stack_two : (s : List ℕ) (n : ℕ) → 2 ≤ n → stack_of s n ≡ get_or s (n - 1) 0 ∷ get_or s (n - 2) 0 ∷ stack_of s (n - 2)
unfolding stack_of
stack_two s zero h = absurd (omega arith)
stack_two s (suc zero) h = absurd (omega arith)
stack_two s (suc (suc n)) h =
    let e : suc (suc n) - 1 ≡ suc n = omega arith in
    let f : suc (suc n) - 2 ≡ n = omega arith in
    rw (e, f)

-- one item put in the place of two, and two items exchanged
pub stack_put : (s : List ℕ) (n a : ℕ) → 2 ≤ n → n ≤ length s → stack_of (set s (n - 2) a) (n - 1) ≡ a ∷ stack_of s (n - 2)
stack_put s n a h k = let e : n - 1 ≡ (n - 2) + 1 = omega arith in rw e (stack_push s (n - 2) a (omega arith))

pub stack_swap : (s : List ℕ) (n a b : ℕ) → 2 ≤ n → n ≤ length s → stack_of (set (set s (n - 1) a) (n - 2) b) n ≡ a ∷ b ∷ stack_of s (n - 2)
stack_swap s n a b h k =
    rw (
      stack_two (set (set s (n - 1) a) (n - 2) b) n h,
      get_or-set_other (set s (n - 1) a) (n - 2) (n - 1) b 0 (omega arith),
      get_or-set_same s (n - 1) a 0 (omega arith),
      get_or-set_same (set s (n - 1) a) (n - 2) b 0 (simp length-set (omega arith)),
      stack_set (set s (n - 1) a) (n - 2) b (n - 2) (omega arith),
      stack_set s (n - 1) a (n - 2) (omega arith),
    )
