-- What an operator, a closing parenthesis or the end does to the operators that wait.
use Rattle.std.specs.Prelude.{ℕ, ◌+◌, ◌<◌, ◌≤◌, min, ◌≡◌, List, [], ◌∷◌, cond, eqb, leb, length, drop}
use Rattle.token.specs.Token.{tokens}
use Rattle.token.specs.Code.Places.{first, end_at}
use Rattle.grammar.specs.Grammar.{levels}
use Rattle.grammar.specs.Parse.{symbol}
use Rattle.grammar.specs.Code.Operator.{level_of}
use Rattle.writer.specs.Code.Overwrites.{Overwrites}
use Rattle.emission.specs.Code.Lines.{operators_text}
use Rattle.emission.specs.declared.operator.Turn.{Turn}
use Rattle.emission.specs.Code.Waiting.{most, popped, left, stack, Holds}
use Rattle.emission.specs.declared.waiting.Waiting.{Waiting}

-- the sign at or after an offset of an expression; 0 where no token is left
abbrev pub symbol_at : List ℕ → ℕ → ℕ
symbol_at s at = symbol (first (tokens (drop at s)))

-- the level down to which a sign writes what waits
abbrev pub down_to : ℕ → ℕ
down_to sign = min (level_of sign) levels

-- the stack behind a sign, where st is left of it
abbrev pub stack_after : ℕ → List ℕ → List ℕ
stack_after sign st = cond (leb (level_of sign) levels) (sign ∷ st) (cond (eqb sign 41) (drop 1 st) st)

-- there is room for what is written and for one more operator, a closing parenthesis has its mark, and behind anything else is the end
pub record CanTurn (s : List ℕ) (at : ℕ) (out : List ℕ) (to : ℕ) (w : Waiting) : Type 0 where
  pub before : at < length s
  pub holds : Holds w
  pub room : to + length (operators_text (popped (down_to (symbol_at s at)) (stack w))) ≤ length out
  pub operator : level_of (symbol_at s at) ≤ levels → length (left (down_to (symbol_at s at)) (stack w)) < most
  pub mark : symbol_at s at ≡ 41 → 0 < length (left (down_to (symbol_at s at)) (stack w))
  pub last : (level_of (symbol_at s at) ≤ levels → ⊥) → (symbol_at s at ≡ 41 → ⊥) → tokens (drop at s) ≡ []

pub record Turns (s : List ℕ) (at : ℕ) (out : List ℕ) (to : ℕ) (w : Waiting) (out_after : List ℕ) (v : Waiting) (r : Turn) : Type 0 where
  pub put : Overwrites out to (operators_text (popped (down_to (symbol_at s at)) (stack w))) out_after r.to
  pub past : at < r.at
  pub next : tokens (drop r.at s) ≡ tokens (drop (end_at s at) s)
  pub stacked : stack v ≡ stack_after (symbol_at s at) (left (down_to (symbol_at s at)) (stack w))
  pub holds : Holds v
  pub due : r.due ≡ leb (level_of (symbol_at s at)) levels
