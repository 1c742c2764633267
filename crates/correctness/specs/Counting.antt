-- Counts over a program: gas and stack items before each operation, and where one of the two does not suffice.
use Rattle.std.specs.Prelude.{ℕ, ◌+◌, ◌-◌, ◌≤◌, ◌<◌, ◌≡◌, List, [], ◌∷◌, cond, ◌||◌, eqb, length, get_or, take}
use Rattle.kinds.specs.Kinds.{value, kind_of, takes, Operation}
use Rattle.machine.specs.Machine.{halt}

-- an operation's price; 1 for a push; 1 for an operator, which in a tree's program is each operation that is neither a push nor Halt
unfoldable pub price : Operation → ℕ
price o = (kind_of o.kind).price

unfoldable pub is_push : Operation → ℕ
is_push o = cond (takes value o.kind) 1 0

unfoldable pub is_operator : Operation → ℕ
is_operator o = cond (takes value o.kind || eqb o.kind 15) 0 1

-- the price of all the operations, the number of pushes, the number of operators
unfoldable pub cost : List Operation → ℕ
cost [] = 0
cost (o ∷ l) = price o + cost l

unfoldable pub pushes : List Operation → ℕ
pushes [] = 0
pushes (o ∷ l) = is_push o + pushes l

unfoldable pub operators : List Operation → ℕ
operators [] = 0
operators (o ∷ l) = is_operator o + operators l

-- operation i, the gas that those before it cost, and the items that they leave: a push adds one, an operator takes two and adds one
abbrev pub op_at : List Operation → ℕ → Operation
op_at l i = get_or l i halt

abbrev pub cost_before : List Operation → ℕ → ℕ
cost_before l i = cost (take i l)

abbrev pub height_before : List Operation → ℕ → ℕ
height_before l i = pushes (take i l) - operators (take i l)

-- operation i is the first whose price exceeds what is left of g
pub record FirstUnpaid (l : List Operation) (g i : ℕ) : Type 0 where
  pub within : i < length l
  pub paid : (j : ℕ) → j < i → cost_before l j + price (op_at l j) ≤ g
  pub short : g < cost_before l i + price (op_at l i)

-- operation j is a push that meets 4,096 items
abbrev pub PushWhenFull : List Operation → ℕ → Type 0
PushWhenFull l j = (j < length l) × (is_push (op_at l j) ≡ 1) × (height_before l j ≡ 4096)

-- and the first such
pub record FirstFull (l : List Operation) (j : ℕ) : Type 0 where
  pub meets : PushWhenFull l j
  pub first : (i : ℕ) → i < j → ¬ (PushWhenFull l i)
