-- The sixteen kinds of operation: of each its word, what its operand is, and its price.
use Rattle.std.specs.Prelude.{ℕ, List, [], ◌∷◌, Bool, eqb, get_or}
use Prim.Native.String.{String}
use Rattle.base.specs.Ascii.{ascii}

-- what follows a kind's word: nothing, a value, a storage slot, a jump's target
pub data Operand : Type 0 where
  none : Operand
  value : Operand
  slot : Operand
  target : Operand

pub record Kind : Type 0 where
  pub word : List ℕ
  pub operand : Operand
  pub price : ℕ

abbrev pub kind : String → Operand → ℕ → Kind
kind word operand price = record { word = ascii word; operand = operand; price = price }

-- by their numbers, 0 to 15
abbrev pub kinds : List Kind
kinds =
    kind "Push" value 1
    ∷ kind "Add" none 2
    ∷ kind "Sub" none 2
    ∷ kind "Mul" none 2
    ∷ kind "Div" none 2
    ∷ kind "Dup" none 1
    ∷ kind "Swap" none 1
    ∷ kind "Jump" target 2
    ∷ kind "JumpIfNotZero" target 2
    ∷ kind "Eq" none 2
    ∷ kind "Lt" none 2
    ∷ kind "Load" slot 3
    ∷ kind "Store" slot 3
    ∷ kind "Caller" none 1
    ∷ kind "JumpIfZero" target 2
    ∷ kind "Halt" none 0
    ∷ []

-- a number above 15 is that of no kind: it has no word, no operand and no price
abbrev pub kind_of : ℕ → Kind
kind_of k = get_or kinds k (kind "" none 0)

abbrev pub sort_number : Operand → ℕ
sort_number none = 0
sort_number value = 1
sort_number slot = 2
sort_number target = 3

-- whether the operand of a kind is of a sort
abbrev pub takes : Operand → ℕ → Bool
takes o k = eqb (sort_number (kind_of k).operand) (sort_number o)

-- an operation: the number of its kind, and its operand
pub record Operation : Type 0 where
  pub kind : ℕ
  pub operand : ℕ

abbrev pub operation : ℕ → ℕ → Operation
operation k v = record { kind = k; operand = v }
