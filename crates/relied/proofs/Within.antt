-- What a run leaves lies in the lent buffers.
use Rattle.std.specs.Prelude.{Option, Some, None, Result, Ok, Err}
use Prim.Native.Nat.{ℕ, zero, suc, ◌+◌, ◌-◌, ◌≤◌, ◌<◌}
use native.Mathlib.Omega.{arith}
use native.Mathlib.Decide.{dec_lt}
use mathlib.Core.Path.{◌≡◌, refl, ap}
use mathlib.Core.Bool.{Bool, true, false, cond}
use mathlib.Core.List.{List, [], ◌∷◌}
use lib.ListN.{length, get_or, take, length-take}
use lib.Dec.{ltb}
use borrow.Author.Tests.{ltb-true}
use Rattle.word.specs.Apply.{Binary, add, sub, mul, div, eq, lt, apply}
use Rattle.kinds.specs.Kinds.{Operation, operation}
use Rattle.kinds.proofs.ByKind.{Span, end, ◌&◌, span}
use Rattle.machine.specs.Machine.{out_of_gas, stack_limit_exceeded, storage_limit_exceeded, outside_storage, Frame, Effect, moves, jumps, ends, fails, over, costs, next, done, stop, store_at, push_of, result_of, binop_of, dup_of, swap_of, jump_if_of, store_of, effect_of, price_of, settle, pay, act_of, decode, halt, machine, follow, run_of, start, run_to_end, Progress}
use Rattle.machine.proofs.Program.{effect_high}
use Rattle.machine.proofs.Slots.{store_length}
use Rattle.checks.specs.declared.VmError.{VmError}
use Rattle.perform.specs.declared.Success.{Success}
use Rattle.perform.specs.Call.{Call}
use Rattle.perform.specs.Run.{of_run}
use Rattle.vm.specs.Transition.{after_check, checks_of, run_under}
use Rattle.relied.proofs.Running.{ran}

-- room is the length of the lent storage
module _ (room : ℕ) where
  record Inside (s m : List ℕ) : Type 0 where
    stack : length s ≤ 4096
    storage : length m ≤ room

  abbrev Leaves : Effect → Type 0
  Leaves (moves s m) = Inside s m
  Leaves (jumps t s m) = Inside s m
  Leaves ends = Unit {0}
  Leaves (fails f) = Unit {0}

  abbrev Reaches : Progress → Type 0
  Reaches (next h fr) = Inside fr.stack fr.storage
  Reaches (done h fr) = Inside fr.stack fr.storage
  Reaches (stop f) = Unit {0}

  cond_leaves : (b : Bool) (d e : Effect) → (b ≡ true → Leaves d) → (b ≡ false → Leaves e) → Leaves (cond b d e)
  cond_leaves true d e p q = p refl
  cond_leaves false d e p q = q refl

  push_leaves : (v : ℕ) (s m : List ℕ) → length m ≤ room → Leaves (push_of v s m)
  push_leaves v s m h =
      cond_leaves (ltb (length s) 4096) (moves (v ∷ s) m) (fails stack_limit_exceeded) (λ e. record { stack = omega (arith, ltb-true (length s) 4096 e); storage = h }) (λ e. tt)

  value_leaves : (o : Option ℕ) (s m : List ℕ) → suc (length s) ≤ 4096 → length m ≤ room → Leaves (result_of o s m)
  value_leaves None s m l h = tt
  value_leaves (Some v) s m l h = record { stack = omega arith; storage = h }

  stored : (i v : ℕ) (s m : List ℕ) → length s ≤ 4096 → length m ≤ room → ltb i room ≡ true → Inside s (store_at m i v)
  stored i v s m l h e =
      let n = store_length m i v in
      let b = ltb-true i room e in
      record { stack = l; storage = omega arith }

  two_leaves : (o : Binary) (s m : List ℕ) → length s ≤ 4096 → length m ≤ room → Leaves (binop_of o s m)
  two_leaves o [] m l h = tt
  two_leaves o (b ∷ []) m l h = tt
  two_leaves o (b ∷ a ∷ s) m l h = value_leaves (apply o a b) s m (omega arith) h

  dup_leaves : (s m : List ℕ) → length m ≤ room → Leaves (dup_of s m)
  dup_leaves [] m h = tt
  dup_leaves (a ∷ s) m h = push_leaves a (a ∷ s) m h

  swap_leaves : (s m : List ℕ) → length s ≤ 4096 → length m ≤ room → Leaves (swap_of s m)
  swap_leaves [] m l h = tt
  swap_leaves (b ∷ []) m l h = tt
  swap_leaves (b ∷ a ∷ s) m l h = record { stack = omega arith; storage = h }

  jump_leaves : (t : ℕ) (s m : List ℕ) → length s ≤ 4096 → length m ≤ room → Leaves (jumps t s m)
  jump_leaves t s m l h = record { stack = l; storage = h }

  jump_if_leaves : (test : ℕ → Bool) (t : ℕ) (s m : List ℕ) → length s ≤ 4096 → length m ≤ room → Leaves (jump_if_of test t s m)
  jump_if_leaves test t [] m l h = tt
  jump_if_leaves test t (v ∷ s) m l h =
      let i : Inside s m = record { stack = omega arith; storage = h } in
      cond_leaves (test v) (jumps t s m) (moves s m) (λ e. i) (λ e. i)

  store_leaves : (i : ℕ) (s m : List ℕ) → length s ≤ 4096 → length m ≤ room → Leaves (store_of room i s m)
  store_leaves i [] m l h = tt
  store_leaves i (v ∷ s) m l h =
      cond_leaves (ltb i 65536) _ (fails (storage_limit_exceeded _))
      (λ e. cond_leaves (ltb i room) (moves s (store_at m i v)) (fails outside_storage) (λ f. stored i v s m (omega arith) h f) (λ f. tt))
      (λ e. tt)

  effect_leaves : (c : ℕ) (o : Operation) (s m : List ℕ) → length s ≤ 4096 → length m ≤ room → Leaves (effect_of c room o s m)
  effect_leaves c o s m l h = go (dec_lt o.kind 15)
    where
      v : ℕ
      v = o.operand

      by_kind : Span (λ k. Leaves (effect_of c room (operation k v) s m)) 0 15
      by_kind =
          push_leaves v s m h
          & two_leaves add s m l h
          & two_leaves sub s m l h
          & two_leaves mul s m l h
          & two_leaves div s m l h
          & dup_leaves s m h
          & swap_leaves s m l h
          & jump_leaves v s m l h
          & jump_if_leaves _ v s m l h
          & two_leaves eq s m l h
          & two_leaves lt s m l h
          & push_leaves (get_or m v 0) s m h
          & store_leaves v s m l h
          & push_leaves c s m h
          & jump_if_leaves _ v s m l h
          & end

      go : Dec (o.kind < 15) → Leaves (effect_of c room o s m)
      go (yes q) = span 0 15 o.kind by_kind (omega arith) q
      go (no q) = rw (effect_high c room o.kind v (omega arith)) tt

  settle_reaches : (g : ℕ) (fr : Frame) (e : Effect) → Inside fr.stack fr.storage → Leaves e → Reaches (settle g fr e)
  settle_reaches g fr (moves s m) i p = p
  settle_reaches g fr (jumps t s m) i p = p
  settle_reaches g fr ends i p = i
  settle_reaches g fr (fails f) i p = tt

  pay_reaches : (p g : ℕ) (fr : Frame) (e : Effect) → Inside fr.stack fr.storage → Leaves e → Reaches (pay g fr (costs p e))
  pay_reaches p g fr e i q = go (ltb g p)
    where
      go : (b : Bool) → Reaches (cond b (stop (out_of_gas p g)) (settle (g - p) fr e))
      go true = tt
      go false = settle_reaches (g - p) fr e i q

  module _ (program : List Operation) (c : ℕ) where
    step_reaches : (g : ℕ) (fr : Frame) → Inside fr.stack fr.storage → Reaches (pay g fr (machine program c room fr))
    step_reaches g fr i = go (ltb fr.pos (length program))
      where
        op : Operation
        op = get_or program fr.pos halt

        go : (b : Bool) → Reaches (pay g fr (cond b (act_of c room op fr) over))
        go true =
            pay_reaches (price_of op (length fr.storage)) g fr (effect_of c room op fr.stack fr.storage) i
            (effect_leaves c op fr.stack fr.storage i.stack i.storage)
        go false = i

    run_reaches : (n g : ℕ) (fr : Frame) → Inside fr.stack fr.storage → Reaches (run_of (machine program c room) n g fr)
    unfolding run_of
    run_reaches zero g fr i = i
    run_reaches (suc n) g fr i = go (pay g fr (machine program c room fr)) (step_reaches g fr i) (λ h f j. run_reaches n h f j)
      where
        go : (x : Progress) → Reaches x → ((h : ℕ) (f : Frame) → Inside f.stack f.storage → Reaches (run_of (machine program c room) n h f))
            → Reaches (follow x (run_of (machine program c room) n))
        go (next h f) p ih = ih h f p
        go (done h f) p ih = p
        go (stop f) p ih = tt

    whole_reaches : (g : ℕ) (m : List ℕ) → length m ≤ room → Reaches (run_to_end program c room g m)
    unfolding run_to_end
    whole_reaches g m h = run_reaches (g + 1) g (start m) (record { stack = omega arith; storage = h })

-- `Vm::perform` takes as many items of its stack buffer and as many slots of its storage buffer as the answer says: a success has
-- at most 4,096 items, and uses no more slots than were lent. `own` is the call's own test: none of atc_run_with_gas, the gate of
-- a transition
pub success_within : (own : Result (Unit {0}) VmError) (x : Call) (w : Success) → (run_under own (Ok tt) (λ r. r) x).answer ≡ Ok w
    → (w.items ≤ 4096) × (w.state.used ≤ length x.storage)
success_within own x w =
    go (checks_of own (Ok tt) x) (ran x)
    (whole_reaches (length x.storage) (decode x.kinds x.operands) x.caller x.limit (take x.state.used x.storage) (simp length-take (omega arith)))
  where
    go : (c : Result (Unit {0}) VmError) (o : Progress) → Reaches (length x.storage) o → (after_check c x (of_run x o)).answer ≡ Ok w
        → (w.items ≤ 4096) × (w.state.used ≤ length x.storage)
    go (Err f) o p e = cc
    go (Ok tt) (next h fr) p e = cc
    go (Ok tt) (stop f) p e = cc
    go (Ok tt) (done h fr) p e =
        let a : ◌≡◌ {A = Success} (record { gas_spent = x.limit - h; operations = fr.ops; items = length fr.stack; state = record { used = length fr.storage } }) w = cc in
        let i = ap (λ (v : Success). v.items) a in
        let j = ap (λ (v : Success). v.state.used) a in
        (omega (arith, p.stack), omega (arith, p.storage))
