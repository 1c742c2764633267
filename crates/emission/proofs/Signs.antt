-- The sign that the code reads at a place, as the grammar's byte.
use Prim.Native.Nat.{ℕ, ◌+◌, ◌≤◌}
use mathlib.Core.Path.{◌≡◌, refl, sym, ap, ◌∙◌}
use mathlib.Core.List.{List, [], ◌∷◌}
use native.Mathlib.Omega.{arith}
use borrow.Author.Tests.{ne_eqb}
use lib.Dec.{leb}
use lib.ListN.{length}
use Rattle.std.specs.Prelude.{Option, Some, None}
use Rattle.std.proofs.lemmas.Option.{none-some, same_Some}
use Rattle.base.proofs.Tests.{by_eqb}
use Rattle.word.specs.declared.Operator.{Operator}
use Rattle.word.specs.declared.Operator.TheVariants.{Add, Sub, Mul, Div, Equal, Less}
use Rattle.token.specs.Code.Places.{first}
use Rattle.grammar.specs.Parse.{symbol}
use Rattle.grammar.specs.Grammar.{levels}
use Rattle.grammar.specs.Code.Operator as grammar
use Rattle.expression.specs.declared.parts.Sign.{Sign}
use Rattle.expression.specs.declared.parts.SignAt.{SignAt}
use Rattle.expression.specs.declared.parts.Level.{Level}
use Rattle.expression.specs.contracts.parts.LevelPartialOrd.TheImpl.{partial_cmp-value}
use Rattle.std.specs.Ordering.{partial_le}
use Rattle.expression.specs.Code.Parts.{sign_named, placed, first_sign, level_of, level_number}
use Rattle.emission.specs.Code.Waiting.{sign_of}

-- an operator's level
pub level_is : (op : Operator) → grammar.level_of (sign_of (Some op)) ≡ level_number (level_of op)
level_is Add = refl
level_is Sub = refl
level_is Mul = refl
level_is Div = refl
level_is Equal = refl
level_is Less = refl

pub level_low : (op : Operator) → level_number (level_of op) ≤ levels
level_low Add = omega arith
level_low Sub = omega arith
level_low Mul = omega arith
level_low Div = omega arith
level_low Equal = omega arith
level_low Less = omega arith

abbrev pub byte_of : Sign → ℕ
byte_of (Sign.Operator op) = sign_of (Some op)
byte_of Sign.Open = 40
byte_of Sign.Close = 41

abbrev named : ℕ → Option Sign → Type 0
named a None = grammar.level_of a ≡ 4
named a (Some sign) = a ≡ byte_of sign

pub named_is : (a : ℕ) → named a (sign_named a)
named_is a =
    by_eqb a 40 (λ e. rw e refl) (λ n40.
    by_eqb a 41 (λ e. rw e refl) (λ n41.
    by_eqb a 43 (λ e. rw e refl) (λ n43.
    by_eqb a 45 (λ e. rw e refl) (λ n45.
    by_eqb a 42 (λ e. rw e refl) (λ n42.
    by_eqb a 47 (λ e. rw e refl) (λ n47.
    by_eqb a 60 (λ e. rw e refl) (λ n60.
    by_eqb a 61 (λ e. rw e refl) (λ n61.
    simp (ne_eqb a 40 n40, ne_eqb a 41 n41, ne_eqb a 43 n43, ne_eqb a 45 n45, ne_eqb a 42 n42, ne_eqb a 47 n47, ne_eqb a 60 n60, ne_eqb a 61 n61) refl))))))))

-- a sign is the first of the tokens that start at a place
pub first_is : (i : ℕ) (ts : List (List ℕ)) {r : SignAt} → first_sign i ts ≡ Some r → (symbol (first ts) ≡ byte_of r.sign) × (r.end ≡ i + length (first ts))
first_is i [] e = absurd (none-some _ e)
first_is i (w ∷ ts) {r} e = go (sign_named (symbol w)) (named_is (symbol w)) e
  where
    go : (o : Option Sign) → named (symbol w) o → placed (i + length w) o ≡ Some r → (symbol w ≡ byte_of r.sign) × (r.end ≡ i + length w)
    go None n p = absurd (none-some _ p)
    go (Some g) n p = let q = same_Some _ _ p in (n ∙ ap (λ (y : SignAt). byte_of y.sign) q, sym (ap (λ (y : SignAt). y.end) q))

-- where it is none, the grammar has no operator and no closing parenthesis there
pub first_none : (i : ℕ) (ts : List (List ℕ)) → first_sign i ts ≡ None → (grammar.level_of (symbol (first ts)) ≡ 4) × (symbol (first ts) ≡ 41 → ⊥)
first_none i [] e = (refl, λ h. omega arith)
first_none i (w ∷ ts) e = go (sign_named (symbol w)) refl (named_is (symbol w)) e
  where
    go : (o : Option Sign) → sign_named (symbol w) ≡ o → named (symbol w) o → placed (i + length w) o ≡ None → (grammar.level_of (symbol w) ≡ 4) × (symbol w ≡ 41 → ⊥)
    go None q n p = (n, λ h. absurd (none-some _ (sym q ∙ ap sign_named h)))
    go (Some g) q n p = absurd (none-some _ (sym p))

pub number_low : (l : Level) → level_number l ≤ levels
number_low Level.Product = omega arith
number_low Level.Sum = omega arith
number_low Level.Comparison = omega arith

-- the code's order of levels is that of their numbers
pub le_is : (a b : Level) → partial_le partial_cmp-value.it a b ≡ leb (level_number a) (level_number b)
le_is Level.Product Level.Product = refl
le_is Level.Product Level.Sum = refl
le_is Level.Product Level.Comparison = refl
le_is Level.Sum Level.Product = refl
le_is Level.Sum Level.Sum = refl
le_is Level.Sum Level.Comparison = refl
le_is Level.Comparison Level.Product = refl
le_is Level.Comparison Level.Sum = refl
le_is Level.Comparison Level.Comparison = refl
