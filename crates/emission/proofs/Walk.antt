-- The text that a walk over the rest of an expression's tokens writes, with the operators that wait on a stack.
use Prim.Native.Nat.{ℕ, ◌^◌, ◌<◌, ◌≤◌}
use mathlib.Core.Path.{◌≡◌}
use mathlib.Core.List.{List, [], ◌∷◌, ◌++◌}
use mathlib.Core.Bool.{Bool, true, false}
use Rattle.std.specs.Prelude.{Some}
use lib.ListN.{length}
use Rattle.base.specs.Lists.{all}
use Rattle.decimal.specs.Decimal.{digit, value}
use Rattle.grammar.specs.Tree.{Tree, num}
use Rattle.grammar.specs.Grammar.{levels}
use Rattle.grammar.specs.Parse.{Env, lookup, symbol}
use Rattle.grammar.specs.Code.Texts.{text_of}
use Rattle.emission.specs.Code.Lines.{operators_text}
use Rattle.grammar.specs.Code.Operator.{level_of}
use Rattle.emission.specs.Code.Waiting.{most, popped, left}

-- The token w where a factor is due: `(` is marked on the stack, a number and a name are written.
-- `next due st o`: the walk over the tokens behind w, with the stack st, writes o; due says whether it starts with a factor.
pub data FactorStep (env : Env) (next : Bool → List ℕ → List ℕ → Type 0) (st w o : List ℕ) : Type 0 where
  opens : symbol w ≡ 40 → length st < most → next true (40 ∷ st) o → FactorStep env next st w o
  number : (symbol w ≡ 40 → ⊥) → all digit w ≡ true → value w < 2 ^ 64 → (o' : List ℕ) → o ≡ text_of (num (value w)) ++ o' → next false st o' → FactorStep env next st w o
  name : (symbol w ≡ 40 → ⊥) → all digit w ≡ false → (t : Tree) → lookup w env ≡ Some t → (o' : List ℕ) → o ≡ text_of t ++ o' → next false st o' → FactorStep env next st w o

-- The token w where an operator is due: `)` writes the operators down to the mark; an operator writes those that bind at least as tightly, then waits.
pub data OperatorStep (next : Bool → List ℕ → List ℕ → Type 0) (st w o : List ℕ) : Type 0 where
  closes : symbol w ≡ 41 → (st' : List ℕ) → left levels st ≡ 40 ∷ st' → (o' : List ℕ) → o ≡ operators_text (popped levels st) ++ o' → next false st' o' → OperatorStep next st w o
  waits : level_of (symbol w) ≤ levels → length (left (level_of (symbol w)) st) < most → (o' : List ℕ) → o ≡ operators_text (popped (level_of (symbol w)) st) ++ o' → next true (symbol w ∷ left (level_of (symbol w)) st) o' → OperatorStep next st w o

-- The end writes the operators that wait.
pub record EndStep (st o : List ℕ) : Type 0 where
  pub text : o ≡ operators_text (popped levels st)
  pub empty : left levels st ≡ []

-- environment, whether a factor is due, stack, tokens, the text that is written from here on
abbrev pub Walks : Env → Bool → List ℕ → List (List ℕ) → List ℕ → Type 0
Walks env true st [] o = ⊥
Walks env true st (w ∷ ts) o = FactorStep env (λ due st' o'. Walks env due st' ts o') st w o
Walks env false st [] o = EndStep st o
Walks env false st (w ∷ ts) o = OperatorStep (λ due st' o'. Walks env due st' ts o') st w o
