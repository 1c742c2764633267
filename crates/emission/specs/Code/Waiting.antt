-- The operators that wait on a stack, top first, with a mark `(` for each open parenthesis.
use Rattle.std.specs.Prelude.{ℕ, ◌+◌, ◌-◌, ◌*◌, ◌<◌, ◌≤◌, ◌≡◌, List, [], ◌∷◌, Option, Some, None, true, false, leb, length, map, get_or, slice_set, replicate}
use Rattle.base.specs.Code.Stack.{stack_of}
use Rattle.word.specs.declared.Operator.{Operator}
use Rattle.word.specs.declared.Operator.TheVariants.{Add, Sub, Mul, Div, Equal, Less}
use Rattle.grammar.specs.Grammar.{levels, depth}
use Rattle.grammar.specs.Code.Operator.{level_of}
use Rattle.expression.specs.Code.Parts.{level_number}
use Rattle.expression.specs.Code.Parts as parts
use Rattle.writer.specs.Code.Overwrites.{Overwrites}
use Rattle.emission.specs.Code.Lines.{operators_text}
use Rattle.emission.specs.declared.waiting.Waiting.{Waiting}

-- the most that can wait: an operator of each level, and for each open parenthesis its mark and an operator of each level
abbrev pub most : ℕ
most = levels + (levels + 1) * depth

-- the operators on top of a stack that bind at least as tightly as a level, and the stack without them; a mark binds more loosely than all
unfoldable pub popped : ℕ → List ℕ → List ℕ
popped p [] = []
popped p (y ∷ st) = elim (leb (level_of y) p) [ true ↦ y ∷ popped p st | false ↦ [] ]

unfoldable pub left : ℕ → List ℕ → List ℕ
left p [] = []
left p (y ∷ st) = elim (leb (level_of y) p) [ true ↦ left p st | false ↦ y ∷ st ]

-- the sign of an operator that waits; none is a mark
abbrev pub sign_of : Option Operator → ℕ
sign_of None = 40
sign_of (Some Add) = 43
sign_of (Some Sub) = 45
sign_of (Some Mul) = 42
sign_of (Some Div) = 47
sign_of (Some Less) = 60
sign_of (Some Equal) = 61

-- the signs, top first
abbrev pub stack : Waiting → List ℕ
stack w = stack_of (map sign_of w.operators) w.count

-- one more on top
abbrev pub pushed : Waiting → Option Operator → Waiting
pushed w operator = record { operators = slice_set w.operators w.count operator; count = w.count + 1 }

abbrev pub none_waiting : Waiting
none_waiting = record { operators = replicate most None; count = 0 }

-- no more wait than the array holds
pub record Holds (w : Waiting) : Type 0 where
  pub few : w.count ≤ most
  pub full : length w.operators ≡ most

-- the operator on top, where it binds at least as tightly as a level
abbrev pub Newest : ℕ → Waiting → Option Operator → Type 0
Newest level w None = popped level (stack w) ≡ []
Newest level w (Some op) = (0 < w.count) × ((get_or w.operators (w.count - 1) None ≡ Some op) × (level_number (parts.level_of op) ≤ level))

-- the operators of a level on top of those that wait are written, and v is left
pub record Pops (out : List ℕ) (at : ℕ) (w : Waiting) (level : ℕ) (after : List ℕ) (v : Waiting) (r : ℕ) : Type 0 where
  pub put : Overwrites out at (operators_text (popped level (stack w))) after r
  pub rest : stack v ≡ left level (stack w)
  pub holds : Holds v
