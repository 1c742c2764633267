-- The grammar of expressions, as a reader would write it: what tokens are an expression, sum, term or factor, and with which tree. Nothing of the parser stands in it.
use Rattle.std.specs.Prelude.{ℕ, suc, ◌^◌, ◌<◌, ◌≡◌, List, [], ◌∷◌, ◌++◌, true, false, length}
use Rattle.std.specs.Prelude.{Some}
use Rattle.word.specs.Apply.{Binary, add, sub, mul, div, eq, lt}
use Rattle.decimal.specs.Decimal.{digit, value}
use Rattle.base.specs.Ascii.{ascii}
use Rattle.base.specs.Lists.{all}
use Rattle.grammar.specs.Tree.{Tree, num, bin}
use Rattle.grammar.specs.Environment.{Env, lookup}

-- so many levels of operators
abbrev pub levels : ℕ
levels = 3

-- the levels, from the tightest on; each is operands of the one below, joined from left to right, and an expression is of the loosest
abbrev pub factor : ℕ
factor = 0

abbrev pub term : ℕ
term = 1

abbrev pub sum : ℕ
sum = 2

abbrev pub expression : ℕ
expression = levels

-- so many parentheses may be open at once
abbrev pub depth : ℕ
depth = 64

-- an operator: the level that it joins operands to, its sign and its operation
pub data Operator : ℕ → List ℕ → Binary → Type 0 where
  times : Operator term (ascii "*") mul
  over : Operator term (ascii "/") div
  plus : Operator sum (ascii "+") add
  minus : Operator sum (ascii "-") sub
  less : Operator expression (ascii "<") lt
  equals : Operator expression (ascii "==") eq

-- `Derives env l d ts t`: with at most d parentheses open at once the tokens ts are a factor, term, sum or expression, as the level l says, that has the tree t.
pub data Derives (env : Env) : ℕ → ℕ → List (List ℕ) → Tree → Type 0 where
  number : {d : ℕ} {w : List ℕ} → 0 < length w → all digit w ≡ true → value w < 2 ^ 64 → Derives env factor d (w ∷ []) (num (value w))
  name : {d : ℕ} {w : List ℕ} {t : Tree} → (w ≡ ascii "(" → ⊥) → all digit w ≡ false → lookup w env ≡ Some t → Derives env factor d (w ∷ []) t
  parentheses : {d : ℕ} {ts : List (List ℕ)} {t : Tree} → Derives env expression d ts t → Derives env factor (suc d) (ascii "(" ∷ ts ++ ascii ")" ∷ []) t
  alone : {l d : ℕ} {ts : List (List ℕ)} {t : Tree} → Derives env l d ts t → Derives env (suc l) d ts t
  join : {l d : ℕ} {ts us : List (List ℕ)} {w : List ℕ} {op : Binary} {t u : Tree} → Derives env (suc l) d ts t → Operator (suc l) w op → Derives env l d us u → Derives env (suc l) d (ts ++ w ∷ us) (bin op t u)
