-- How a run is refused: with 46 only where the gas that is left is less than the price.
use Rattle.std.proofs.Common.{ℕ, zero, suc, ◌+◌, ◌-◌, ◌<◌, ◌≤◌, Bool, true, false, cond, ltb, List, [], ◌∷◌, length, get_or, arith}
use native.Mathlib.Decide.{dec_lt}
use Rattle.std.specs.Prelude.{Option, Some, None}
use Rattle.word.specs.Apply.{Binary, add, sub, mul, div, eq, lt, apply}
use Rattle.kinds.specs.Kinds.{Operation, operation}
use Rattle.kinds.proofs.ByKind.{Span, end, ◌&◌, span}
use Rattle.machine.specs.Machine.{Fault, out_of_gas, stack_underflow, stack_limit_exceeded, division_by_zero, storage_limit_exceeded, outside_storage, Frame, Effect, moves, jumps, ends, fails, over, costs, next, done, stop, store_at, push_of, result_of, binop_of, dup_of, swap_of, jump_if_of, store_of, effect_of, price_of, halt, settle, pay, act_of, machine, follow, run_of, start, run_to_end, Progress}
use Rattle.machine.proofs.Program.{effect_high}
use Rattle.machine.proofs.Runs.{unpaid, afforded}

-- no operation says of itself that the gas is short
abbrev Other : Effect → Type 0
Other (moves s m) = Unit {0}
Other (jumps t s m) = Unit {0}
Other ends = Unit {0}
Other (fails (out_of_gas price left)) = ⊥
Other (fails stack_underflow) = Unit {0}
Other (fails stack_limit_exceeded) = Unit {0}
Other (fails division_by_zero) = Unit {0}
Other (fails (storage_limit_exceeded slots)) = Unit {0}
Other (fails outside_storage) = Unit {0}

other_cond : (b : Bool) (d e : Effect) → Other d → Other e → Other (cond b d e)
other_cond true d e p q = p
other_cond false d e p q = q

other_push : (v : ℕ) (s m : List ℕ) → Other (push_of v s m)
other_push v s m = other_cond (ltb (length s) 4096) (moves (v ∷ s) m) (fails stack_limit_exceeded) tt tt

other_value : (o : Option ℕ) (s m : List ℕ) → Other (result_of o s m)
other_value None s m = tt
other_value (Some v) s m = tt

other_two : (o : Binary) (s m : List ℕ) → Other (binop_of o s m)
other_two o [] m = tt
other_two o (b ∷ []) m = tt
other_two o (b ∷ a ∷ s) m = other_value (apply o a b) s m

other_dup : (s m : List ℕ) → Other (dup_of s m)
other_dup [] m = tt
other_dup (a ∷ s) m = other_push a (a ∷ s) m

other_swap : (s m : List ℕ) → Other (swap_of s m)
other_swap [] m = tt
other_swap (b ∷ []) m = tt
other_swap (b ∷ a ∷ s) m = tt

other_jump_if : (test : ℕ → Bool) (t : ℕ) (s m : List ℕ) → Other (jump_if_of test t s m)
other_jump_if test t [] m = tt
other_jump_if test t (v ∷ s) m = other_cond (test v) (jumps t s m) (moves s m) tt tt

other_store : (room i : ℕ) (s m : List ℕ) → Other (store_of room i s m)
other_store room i [] m = tt
other_store room i (v ∷ s) m =
    other_cond (ltb i 65536) _ (fails (storage_limit_exceeded _)) (other_cond (ltb i room) (moves s (store_at m i v)) (fails outside_storage) tt tt) tt

other_effect : (c room : ℕ) (o : Operation) (s m : List ℕ) → Other (effect_of c room o s m)
other_effect c room o s m = go (dec_lt o.kind 15)
  where
    v : ℕ
    v = o.operand

    each : Span (λ k. Other (effect_of c room (operation k v) s m)) 0 15
    each =
        other_push v s m
        & other_two add s m
        & other_two sub s m
        & other_two mul s m
        & other_two div s m
        & other_dup s m
        & other_swap s m
        & tt
        & other_jump_if _ v s m
        & other_two eq s m
        & other_two lt s m
        & other_push (get_or m v 0) s m
        & other_store room v s m
        & other_push c s m
        & other_jump_if _ v s m
        & end

    go : Dec (o.kind < 15) → Other (effect_of c room o s m)
    go (yes h) = span 0 15 o.kind each (omega arith) h
    go (no h) = rw (effect_high c room o.kind v (omega arith)) tt

module _ (g : ℕ) where
  -- 46 carries a price and the gas that was left: too little for it, and no more than the limit g
  abbrev pub Short : Fault → Type 0
  Short (out_of_gas price left) = (left < price) × (left ≤ g)
  Short stack_underflow = Unit {0}
  Short stack_limit_exceeded = Unit {0}
  Short division_by_zero = Unit {0}
  Short (storage_limit_exceeded slots) = Unit {0}
  Short outside_storage = Unit {0}

  -- the gas left is never more than the limit
  abbrev pub Stops : Progress → Type 0
  Stops (next h fr) = h ≤ g
  Stops (done h fr) = h ≤ g
  Stops (stop f) = Short f

  short_other : (f : Fault) → Other (fails f) → Short f
  short_other (out_of_gas price left) p = absurd p
  short_other stack_underflow p = tt
  short_other stack_limit_exceeded p = tt
  short_other division_by_zero p = tt
  short_other (storage_limit_exceeded slots) p = tt
  short_other outside_storage p = tt

  settle_stops : (h : ℕ) (fr : Frame) (e : Effect) → h ≤ g → Other e → Stops (settle h fr e)
  settle_stops h fr (moves s m) l p = l
  settle_stops h fr (jumps t s m) l p = l
  settle_stops h fr ends l p = l
  settle_stops h fr (fails f) l p = short_other f p

  pay_stops : (p h : ℕ) (fr : Frame) (e : Effect) → h ≤ g → Other e → Stops (pay h fr (costs p e))
  pay_stops p h fr e l q = go (dec_lt h p)
    where
      go : Dec (h < p) → Stops (pay h fr (costs p e))
      go (yes y) = rw (unpaid h p fr e y) (y, l)
      go (no y) = let k : p ≤ h = omega arith in rw (afforded h p fr e k) (settle_stops (h - p) fr e (omega arith) q)

  module _ (program : List Operation) (c room : ℕ) where
    step_stops : (h : ℕ) (fr : Frame) → h ≤ g → Stops (pay h fr (machine program c room fr))
    step_stops h fr l = go (ltb fr.pos (length program))
      where
        o : Operation
        o = get_or program fr.pos halt

        go : (b : Bool) → Stops (pay h fr (cond b (act_of c room o fr) over))
        go true = pay_stops (price_of o (length fr.storage)) h fr (effect_of c room o fr.stack fr.storage) l (other_effect c room o fr.stack fr.storage)
        go false = l

    run_stops : (n h : ℕ) (fr : Frame) → h ≤ g → Stops (run_of (machine program c room) n h fr)
    unfolding run_of
    run_stops zero h fr l = l
    run_stops (suc n) h fr l = go (pay h fr (machine program c room fr)) (step_stops h fr l) (λ i f k. run_stops n i f k)
      where
        go : (o : Progress) → Stops o → ((i : ℕ) (f : Frame) → i ≤ g → Stops (run_of (machine program c room) n i f)) → Stops (follow o (run_of (machine program c room) n))
        go (next i f) p ih = ih i f p
        go (done i f) p ih = p
        go (stop f) p ih = p

    pub whole_stops : (m : List ℕ) → Stops (run_to_end program c room g m)
    unfolding run_to_end
    whole_stops m = run_stops (g + 1) g (start m) (omega arith)
