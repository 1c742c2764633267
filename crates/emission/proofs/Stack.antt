-- Laws of the operators that wait, as a stack and as an array holds it.
use Prim.Native.Nat.{ℕ, zero, suc, ◌+◌, ◌-◌, ◌<◌, ◌≤◌}
use mathlib.Core.Path.{◌≡◌, refl, sym, ap, ◌∙◌}
use mathlib.Core.List.{List, [], ◌∷◌, ◌++◌, append-nil, append_assoc}
use native.Mathlib.Omega.{arith}
use borrow.Author.Tests.{le-leb, lt-leb}
use lib.ListN.{length, get_or, length-map}
use Rattle.std.specs.Prelude.{Option, map}
use Rattle.std.proofs.lemmas.List.{map-set}
use Rattle.base.specs.Code.Stack.{stack_of}
use Rattle.base.proofs.Tests.{by_leb}
use Rattle.base.proofs.Stack.{stack_pop, stack_push}
use Rattle.word.specs.declared.Operator.{Operator}
use Rattle.grammar.specs.Tree.{num}
use Rattle.grammar.specs.Code.Texts.{text_of}
use Rattle.grammar.specs.Code.Operator.{level_of}
use Rattle.emission.specs.Code.Lines.{push_text, operator_text, operators_text}
use Rattle.emission.specs.declared.waiting.Waiting.{Waiting}
use Rattle.emission.specs.Code.Waiting.{sign_of, popped, left, stack, pushed}

-- one operator on top of a stack

module _ (p y : ℕ) (st : List ℕ) where
  pub popped_one : level_of y ≤ p → popped p (y ∷ st) ≡ y ∷ popped p st
  unfolding popped
  popped_one h = rw (le-leb (level_of y) p h, popped)

  pub popped_none : p < level_of y → popped p (y ∷ st) ≡ []
  unfolding popped
  popped_none h = rw (lt-leb (level_of y) p h, popped)

  pub left_one : level_of y ≤ p → left p (y ∷ st) ≡ left p st
  unfolding left
  left_one h = rw (le-leb (level_of y) p h, left)

  pub left_none : p < level_of y → left p (y ∷ st) ≡ y ∷ st
  unfolding left
  left_none h = rw (lt-leb (level_of y) p h, left)

-- where nothing is popped, all is left
pub left_all : (p : ℕ) (st : List ℕ) → popped p st ≡ [] → left p st ≡ st
unfolding left
left_all p [] e = refl
left_all p (y ∷ st) e =
    by_leb (level_of y) p
    (λ h. absurd (let z = ap length (sym (popped_one p y st h) ∙ e) in omega arith))
    (λ h. left_none p y st h)

-- an operator or a mark is pushed
pub stack_pushed : (w : Waiting) (operator : Option Operator) → w.count < length w.operators → stack (pushed w operator) ≡ sign_of operator ∷ stack w
stack_pushed w operator h =
    ap (λ (a : List ℕ). stack_of a (w.count + 1)) (map-set sign_of w.operators w.count operator)
    ∙ stack_push (map sign_of w.operators) w.count (sign_of operator) (omega (arith, length-map w.operators sign_of))

-- the stack of an array

pub popped_empty : (A : List ℕ) (p n : ℕ) → n ≤ 0 → popped p (stack_of A n) ≡ []
unfolding popped stack_of
popped_empty A p zero h = refl
popped_empty A p (suc n) h = absurd (omega arith)

pub popped_shut : (A : List ℕ) (p n : ℕ) → 0 < n → p < level_of (get_or A (n - 1) 0) → popped p (stack_of A n) ≡ []
popped_shut A p n h l = ap (popped p) (stack_pop A n h) ∙ popped_none p (get_or A (n - 1) 0) (stack_of A (n - 1)) l

pub popped_more : (A : List ℕ) (p n : ℕ) → 0 < n → level_of (get_or A (n - 1) 0) ≤ p → popped p (stack_of A n) ≡ get_or A (n - 1) 0 ∷ popped p (stack_of A (n - 1))
popped_more A p n h l = ap (popped p) (stack_pop A n h) ∙ popped_one p (get_or A (n - 1) 0) (stack_of A (n - 1)) l

-- what is left is the stack of so many elements fewer
pub record Pops (A : List ℕ) (p n : ℕ) : Type 0 where
  pub few : length (popped p (stack_of A n)) ≤ n
  pub left : stack_of A (n - length (popped p (stack_of A n))) ≡ left p (stack_of A n)

pops_none : (A : List ℕ) (p : ℕ) → Pops A p zero
unfolding stack_of popped left
pops_none A p = record { few = omega arith; left = refl }

pub pops : (A : List ℕ) (p n : ℕ) → Pops A p n
unfolding stack_of
pops A p zero = pops_none A p
pops A p (suc n) = let s = pops A p n in by_leb (level_of (get_or A n 0)) p (λ h. one s h) none
  where
    one : Pops A p n → level_of (get_or A n 0) ≤ p → Pops A p (suc n)
    one s h =
        let e = ap length (popped_one p (get_or A n 0) (stack_of A n) h) in
        let z : suc n - length (popped p (stack_of A (suc n))) ≡ n - length (popped p (stack_of A n)) = omega arith in
        record { few = omega (arith, s.few); left = ap (stack_of A) z ∙ s.left ∙ sym (left_one p (get_or A n 0) (stack_of A n) h) }

    none : p < level_of (get_or A n 0) → Pops A p (suc n)
    none h =
        let e = ap length (popped_none p (get_or A n 0) (stack_of A n) h) in
        let z : suc n - length (popped p (stack_of A (suc n))) ≡ suc n = omega arith in
        record { few = omega arith; left = ap (stack_of A) z ∙ sym (left_none p (get_or A n 0) (stack_of A n) h) }

-- the text of operators

pub text_num : (n : ℕ) → text_of (num n) ≡ push_text n
text_num n = append-nil (push_text n)

pub operators-append : (a b : List ℕ) → operators_text (a ++ b) ≡ operators_text a ++ operators_text b
operators-append [] b = refl
operators-append (x ∷ a) b = ap (λ (t : List ℕ). operator_text x ++ t) (operators-append a b) ∙ sym (append_assoc (operator_text x) (operators_text a) (operators_text b))
