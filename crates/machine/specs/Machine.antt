-- The machine: what an operation does, what it costs, and a run of at most n operations.
-- Gas stands beside the frame, so that nothing an operation does can look at it.
use Rattle.std.specs.Prelude.{ℕ, zero, suc, ◌+◌, ◌-◌, ◌^◌, min, Bool, cond, not, List, [], ◌∷◌, ◌++◌, length, replicate, ◌==◌, nat_eq, nat_lt, slice_index, slice_index_or, slice_set}
use Rattle.std.specs.Prelude.{Option, Some, None}
use Rattle.word.specs.Apply.{Binary, add, sub, mul, div, eq, lt, apply}
use Rattle.kinds.specs.Kinds.{Operation, operation, kind_of}

-- how a run is refused: refusals 46 to 51 of document 01, in its order, with what each carries
pub data Fault : Type 0 where
  out_of_gas : (price left : ℕ) → Fault
  stack_underflow : Fault
  stack_limit_exceeded : Fault
  division_by_zero : Fault
  storage_limit_exceeded : (slots : ℕ) → Fault
  outside_storage : Fault

-- all of a state but its gas: the stack's top comes first, the storage is the used slots, and ops counts the operations executed
pub record Frame : Type 0 where
  pub pos : ℕ
  pub stack : List ℕ
  pub storage : List ℕ
  pub ops : ℕ

-- what an operation does once it is paid for: it leaves a stack and a storage, and goes to the next place or to another
pub data Effect : Type 0 where
  moves : List ℕ → List ℕ → Effect
  jumps : ℕ → List ℕ → List ℕ → Effect
  ends : Effect
  fails : Fault → Effect

-- at a frame the program is over, or an operation with its price is due
pub data Act : Type 0 where
  over : Act
  costs : ℕ → Effect → Act

-- a run goes on, is done, or is refused; with the gas left
pub data Progress : Type 0 where
  next : ℕ → Frame → Progress
  done : ℕ → Frame → Progress
  stop : Fault → Progress

-- what comes after a run that goes on
abbrev pub follow : Progress → (ℕ → Frame → Progress) → Progress
follow (next g fr) k = k g fr
follow (done g fr) k = done g fr
follow (stop f) k = stop f

-- a store, which fills with zeros what it leaves between
abbrev pub store_at : List ℕ → ℕ → ℕ → List ℕ
store_at m i v = cond (nat_lt i (length m)) (slice_set m i v) (m ++ (replicate (i - length m) 0 ++ (v ∷ [])))

-- the effects, from the stack s and the storage m
abbrev pub push_of : ℕ → List ℕ → List ℕ → Effect
push_of v s m = cond (nat_lt (length s) 4096) (moves (v ∷ s) m) (fails stack_limit_exceeded)

abbrev pub result_of : Option ℕ → List ℕ → List ℕ → Effect
result_of None s m = fails division_by_zero
result_of (Some v) s m = moves (v ∷ s) m

abbrev pub binop_of : Binary → List ℕ → List ℕ → Effect
binop_of o [] m = fails stack_underflow
binop_of o (b ∷ []) m = fails stack_underflow
binop_of o (b ∷ a ∷ s) m = result_of (apply o a b) s m

abbrev pub dup_of : List ℕ → List ℕ → Effect
dup_of [] m = fails stack_underflow
dup_of (a ∷ s) m = push_of a (a ∷ s) m

abbrev pub swap_of : List ℕ → List ℕ → Effect
swap_of [] m = fails stack_underflow
swap_of (b ∷ []) m = fails stack_underflow
swap_of (b ∷ a ∷ s) m = moves (a ∷ b ∷ s) m

-- a conditional jump pops, and jumps where the test of the item holds
abbrev pub jump_if_of : (ℕ → Bool) → ℕ → List ℕ → List ℕ → Effect
jump_if_of test t [] m = fails stack_underflow
jump_if_of test t (v ∷ s) m = cond (test v) (jumps t s m) (moves s m)

-- a slot past the used ones reads 0
abbrev pub load_of : ℕ → List ℕ → List ℕ → Effect
load_of i s m = push_of (slice_index m i) s m

-- room is the length of the lent storage; 50 carries the slots that the storage would need, as far as a word counts them
abbrev pub store_of : ℕ → ℕ → List ℕ → List ℕ → Effect
store_of room i [] m = fails stack_underflow
store_of room i (v ∷ s) m =
    cond (nat_lt i 65536)
    (cond (nat_lt i room) (moves s (store_at m i v)) (fails outside_storage))
    (fails (storage_limit_exceeded (min (i + 1) (2 ^ 64 - 1))))

-- the effects of kinds 0 to 15 with the operand v, c being the caller
abbrev pub effects : (c room v : ℕ) → List (List ℕ → List ℕ → Effect)
effects c room v =
    push_of v ∷ binop_of add ∷ binop_of sub ∷ binop_of mul ∷ binop_of div ∷ dup_of ∷ swap_of ∷ jumps v
    ∷ jump_if_of (λ x. not (x == 0)) v ∷ binop_of eq ∷ binop_of lt ∷ load_of v ∷ store_of room v ∷ push_of c ∷ jump_if_of (λ x. nat_eq x 0) v ∷ (λ s m. ends) ∷ []

-- a kind above 15 is taken for Halt
abbrev pub effect_of : (c room : ℕ) → Operation → List ℕ → List ℕ → Effect
effect_of c room o = slice_index_or (effects c room o.operand) o.kind (λ s m. ends)

-- the price of an operation where `used` slots are used
abbrev pub price_of : Operation → (used : ℕ) → ℕ
price_of o used = (kind_of o.kind).price

-- what an effect makes of a frame, with the gas left after the price
abbrev pub settle : ℕ → Frame → Effect → Progress
settle g fr (moves s m) = next g (record { pos = fr.pos + 1; stack = s; storage = m; ops = fr.ops + 1 })
settle g fr (jumps t s m) = next g (record { pos = t; stack = s; storage = m; ops = fr.ops + 1 })
settle g fr ends = done g (record { pos = fr.pos; stack = fr.stack; storage = fr.storage; ops = fr.ops + 1 })
settle g fr (fails f) = stop f

-- the price is taken before anything else is looked at
abbrev pub pay : ℕ → Frame → Act → Progress
pay g fr over = done g fr
pay g fr (costs p e) = cond (nat_lt g p) (stop (out_of_gas p g)) (settle (g - p) fr e)

abbrev pub act_of : (c room : ℕ) → Operation → Frame → Act
act_of c room o fr = costs (price_of o (length fr.storage)) (effect_of c room o fr.stack fr.storage)

-- the program that two buffers hold
unfoldable pub decode : List ℕ → List ℕ → List Operation
decode [] vs = []
decode (k ∷ ks) [] = []
decode (k ∷ ks) (v ∷ vs) = operation k v ∷ decode ks vs

abbrev pub halt : Operation
halt = operation 15 0

-- what a program does at a frame
abbrev pub machine : List Operation → (c room : ℕ) → Frame → Act
machine program c room fr = cond (nat_lt fr.pos (length program)) (act_of c room (slice_index_or program fr.pos halt) fr) over

-- at most n operations
unfoldable pub run_of : (Frame → Act) → ℕ → ℕ → Frame → Progress
run_of act zero g fr = next g fr
run_of act (suc n) g fr = follow (pay g fr (act fr)) (run_of act n)

-- every run starts at position 0 with an empty stack
abbrev pub start : List ℕ → Frame
start m = record { pos = 0; stack = []; storage = m; ops = 0 }

-- a whole run under the limit g: an operation that goes on costs at least 1, so g + 1 operations end it
unfoldable pub run_to_end : List Operation → (c room g : ℕ) → List ℕ → Progress
run_to_end program c room g m = run_of (machine program c room) (g + 1) g (start m)
