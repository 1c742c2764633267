-- What callers of the verifier and the runs rely on.
use Rattle.std.specs.Prelude.{Option, Some, None, Result, Ok, Err}
use Rattle.context.specs.declared.ContextError.{ContextError}
use Prim.Native.Nat.{ℕ, zero, suc, ◌+◌, ◌-◌, ◌≤◌, ◌<◌}
use native.Mathlib.Omega.{arith}
use native.Mathlib.Decide.{dec_lt}
use mathlib.Core.Path.{◌≡◌, refl, sym, subst, ◌∙◌}
use mathlib.Core.Bool.{Bool, true, false, cond, ◌&&◌}
use mathlib.Core.List.{List, [], ◌∷◌}
use lib.ListN.{length, get_or, take}
use lib.Dec.{ltb, leb, eqb}
use borrow.Author.Tests.{lt-ltb, le-leb, eq-eqb, ltb-true, ltb-false, leb-true, leb-false, eqb-true, eqb-false}
use Rattle.base.specs.Need.{need}
use Rattle.base.proofs.Tests.{false_true, and_both}
use Rattle.word.specs.Apply.{Binary, add, sub, mul, div, eq, lt, apply}
use Rattle.kinds.specs.Kinds.{Operation, operation}
use Rattle.kinds.proofs.ByKind.{Span, end, ◌&◌, span, priced, unpriced}
use Rattle.machine.specs.Machine.{Fault, out_of_gas, stack_limit_exceeded, storage_limit_exceeded, outside_storage, Frame, Effect, moves, jumps, ends, fails, over, costs, next, done, stop, store_at, push_of, result_of, binop_of, dup_of, swap_of, jump_if_of, store_of, effect_of, price_of, settle, pay, act_of, decode, halt, machine, follow, run_of, start, run_to_end, Progress}
use Rattle.machine.proofs.Program.{effect_high}
use Rattle.machine.proofs.Runs.{unpaid, afforded, Ended, whole_ends}
use Rattle.mnemonic.specs.Written as Written
use Rattle.mnemonic.specs.Written.{Each}
use Rattle.checks.specs.declared.VmError.{VmError}
use Rattle.checks.specs.declared.VmError.TheVariants.{BufferLengths, EmptyProgram, ProgramTooLarge, StorageTooLarge, UnknownKind, JumpOutOfRange}
use Rattle.checks.specs.Numbers.{check_numbered}
use Rattle.checks.specs.Verify.{then_check, buffers_fit, gate_check, target_fits, operation_check, operations_check, verify_of}
use Rattle.perform.specs.Call.{Call}
use Rattle.perform.specs.Lent.{Lent}
use Rattle.perform.specs.Numbers.{run_answer_numbered}
use Rattle.perform.specs.Run.{refusal_of, of_run, performed}
use Rattle.vm.specs.Transition.{after_check, lengths_check, checks_of, run_under}
use Rattle.vm.specs.Refusals.{refusal_number}
use Rattle.relied.specs.Numbers.{Among}
use Rattle.relied.specs.Running.{KnownKinds, VerifyRelied, Handed, RunRelied}
use Rattle.relied.proofs.Among.{all_in, widen}
use Rattle.relied.proofs.Gate.{gate_gives}

-- what is so of each is so of the one at a place, and of what stands past the end
each_at : {A : Type 0} {Q : A → Type 0} {l : List A} (d : A) → Q d → Each Q l → (i : ℕ) → Q (get_or l i d)
each_at d q Written.none i = q
each_at d q (Written.one p ps) zero = p
each_at d q (Written.one p ps) (suc i) = each_at d q ps i

each_of : {A : Type 0} {Q R : A → Type 0} {l : List A} → ((a : A) → Q a → R a) → Each Q l → Each R l
each_of f Written.none = Written.none
each_of f (Written.one {a = a} p ps) = Written.one (f a p) (each_of f ps)

each : {A : Type 0} {Q : A → Type 0} → ((a : A) → Q a) → (l : List A) → Each Q l
each f [] = Written.none
each f (a ∷ l) = Written.one (f a) (each f l)

-- the run of a call
abbrev pub ran : Call → Progress
ran x = run_to_end (decode x.kinds x.operands) x.caller (length x.storage) x.limit (take x.state.used x.storage)

-- the number that a call whose own test is `own` answers
abbrev answer_number : Result (Unit {0}) VmError → Call → ℕ
answer_number own x = (run_answer_numbered (run_under own (Ok tt) (λ r. r) x).answer).number

abbrev fault_number : Fault → ℕ
fault_number f = refusal_number (refusal_of f)

-- the numbers that calls give have a property, where each that a test or an operation can give has it
module _ (P : ℕ → Type 0) where
  abbrev Gives : Result (Unit {0}) VmError → Type 0
  Gives c = P (check_numbered c).number

  need_gives : (b : Bool) (f : VmError) (c : Result (Unit {0}) VmError) → (b ≡ false → P (refusal_number f)) → Gives c → Gives (need b (Err f) c)
  need_gives true f c h g = g
  need_gives false f c h g = h refl

  then_gives : (c d : Result (Unit {0}) VmError) → Gives c → Gives d → Gives (then_check c d)
  then_gives (Ok tt) d p q = q
  then_gives (Err f) d p q = p

  -- the verifier's
  record Verifying (ks vs : List ℕ) : Type 0 where
    zero : P 0
    lengths : eqb (length ks) (length vs) ≡ false → P 34
    empty : P 41
    large : P 42
    used : P 43
    kinds : Each (λ k. leb k 15 ≡ false → P 44) ks
    target : P 45

  operations_give : (n : ℕ) {ks : List ℕ} → P 0 → P 45 → Each (λ k. leb k 15 ≡ false → P 44) ks → (vs : List ℕ)
      → Gives (operations_check n ks vs)
  unfolding operations_check
  operations_give n z t Written.none vs = z
  operations_give n z t (Written.one {a = k} {l = ks} p ps) [] = z
  operations_give n z t (Written.one {a = k} {l = ks} p ps) (v ∷ vs) =
      then_gives (operation_check n (operation k v)) (operations_check n ks vs)
      (need_gives (leb k 15) UnknownKind _ p (need_gives (target_fits n (operation k v)) JumpOutOfRange (Ok tt) (λ e. t) z))
      (operations_give n z t ps vs)

  verify_gives : (ks vs : List ℕ) (used : ℕ) → Verifying ks vs → Gives (verify_of ks vs used)
  verify_gives ks vs used h =
      need_gives (eqb (length ks) (length vs)) BufferLengths _ h.lengths
      (need_gives (ltb 0 (length ks)) EmptyProgram _ (λ e. h.empty)
      (need_gives (leb (length ks) 65536) (ProgramTooLarge (length ks)) _ (λ e. h.large)
      (need_gives (leb used 65536) (StorageTooLarge used) _ (λ e. h.used)
      (operations_give (length ks) h.zero h.target h.kinds vs))))

  -- the run's
  record Running : Type 0 where
    gas : P 46
    underflow : P 47
    items : P 48
    divisor : P 49
    slots : P 50

  -- 51 is among them where a slot below 65,536 that is stored to lies outside
  abbrev Outside : ℕ → Operation → Type 0
  Outside room o = o.kind ≡ 12 → o.operand < 65536 → room ≤ o.operand → P 51

  abbrev Fails : Effect → Type 0
  Fails (moves s m) = Unit {0}
  Fails (jumps t s m) = Unit {0}
  Fails ends = Unit {0}
  Fails (fails f) = P (fault_number f)

  abbrev Stops : Progress → Type 0
  Stops (next h fr) = Unit {0}
  Stops (done h fr) = Unit {0}
  Stops (stop f) = P (fault_number f)

  cond_fails : (b : Bool) (d e : Effect) → (b ≡ true → Fails d) → (b ≡ false → Fails e) → Fails (cond b d e)
  cond_fails true d e p q = p refl
  cond_fails false d e p q = q refl

  settle_stops : (h : ℕ) (fr : Frame) (e : Effect) → Fails e → Stops (settle h fr e)
  settle_stops h fr (moves s m) p = tt
  settle_stops h fr (jumps t s m) p = tt
  settle_stops h fr ends p = tt
  settle_stops h fr (fails f) p = p

  module _ (r : Running) where
    push_fails : (v : ℕ) (s m : List ℕ) → Fails (push_of v s m)
    push_fails v s m = cond_fails (ltb (length s) 4096) (moves (v ∷ s) m) (fails stack_limit_exceeded) (λ e. tt) (λ e. r.items)

    value_fails : (o : Option ℕ) (s m : List ℕ) → Fails (result_of o s m)
    value_fails None s m = r.divisor
    value_fails (Some v) s m = tt

    two_fails : (b : Binary) (s m : List ℕ) → Fails (binop_of b s m)
    two_fails b [] m = r.underflow
    two_fails b (y ∷ []) m = r.underflow
    two_fails b (y ∷ x ∷ s) m = value_fails (apply b x y) s m

    dup_fails : (s m : List ℕ) → Fails (dup_of s m)
    dup_fails [] m = r.underflow
    dup_fails (a ∷ s) m = push_fails a (a ∷ s) m

    swap_fails : (s m : List ℕ) → Fails (swap_of s m)
    swap_fails [] m = r.underflow
    swap_fails (y ∷ []) m = r.underflow
    swap_fails (y ∷ x ∷ s) m = tt

    jump_if_fails : (test : ℕ → Bool) (t : ℕ) (s m : List ℕ) → Fails (jump_if_of test t s m)
    jump_if_fails test t [] m = r.underflow
    jump_if_fails test t (v ∷ s) m = cond_fails (test v) (jumps t s m) (moves s m) (λ e. tt) (λ e. tt)

    store_fails : (room i : ℕ) (s m : List ℕ) → (i < 65536 → room ≤ i → P 51) → Fails (store_of room i s m)
    store_fails room i [] m o = r.underflow
    store_fails room i (v ∷ s) m o =
        cond_fails (ltb i 65536) _ (fails (storage_limit_exceeded _))
        (λ e. cond_fails (ltb i room) (moves s (store_at m i v)) (fails outside_storage) (λ f. tt) (λ f. o (ltb-true i 65536 e) (ltb-false i room f)))
        (λ e. r.slots)

    effect_fails : (c room : ℕ) (o : Operation) (s m : List ℕ) → Outside room o → Fails (effect_of c room o s m)
    effect_fails c room o s m out = go (dec_lt o.kind 15)
      where
        v : ℕ
        v = o.operand

        by_kind : Span (λ k. Outside room (operation k v) → Fails (effect_of c room (operation k v) s m)) 0 15
        by_kind =
            (λ _. push_fails v s m)
            & (λ _. two_fails add s m)
            & (λ _. two_fails sub s m)
            & (λ _. two_fails mul s m)
            & (λ _. two_fails div s m)
            & (λ _. dup_fails s m)
            & (λ _. swap_fails s m)
            & (λ _. tt)
            & (λ _. jump_if_fails _ v s m)
            & (λ _. two_fails eq s m)
            & (λ _. two_fails lt s m)
            & (λ _. push_fails (get_or m v 0) s m)
            & (λ q. store_fails room v s m (q refl))
            & (λ _. push_fails c s m)
            & (λ _. jump_if_fails _ v s m)
            & end

        go : Dec (o.kind < 15) → Fails (effect_of c room o s m)
        go (yes h) = span 0 15 o.kind by_kind (omega arith) h out
        go (no h) = rw (effect_high c room o.kind v (omega arith)) tt

    pay_stops : (p h : ℕ) (fr : Frame) (e : Effect) → Fails e → Stops (pay h fr (costs p e))
    pay_stops p h fr e q = go (ltb h p)
      where
        go : (b : Bool) → Stops (cond b (stop (out_of_gas p h)) (settle (h - p) fr e))
        go true = r.gas
        go false = settle_stops (h - p) fr e q

    module _ (program : List Operation) (c room : ℕ) (o : Each (Outside room) program) where
      step_stops : (h : ℕ) (fr : Frame) → Stops (pay h fr (machine program c room fr))
      step_stops h fr = go (ltb fr.pos (length program))
        where
          op : Operation
          op = get_or program fr.pos halt

          out : Outside room op
          out = each_at halt (λ e. absurd (omega (arith, e))) o fr.pos

          go : (b : Bool) → Stops (pay h fr (cond b (act_of c room op fr) over))
          go true =
              pay_stops (price_of op (length fr.storage)) h fr (effect_of c room op fr.stack fr.storage)
              (effect_fails c room op fr.stack fr.storage out)
          go false = tt

      run_stops : (n h : ℕ) (fr : Frame) → Stops (run_of (machine program c room) n h fr)
      unfolding run_of
      run_stops zero h fr = tt
      run_stops (suc n) h fr = go (pay h fr (machine program c room fr)) (step_stops h fr) (λ i f. run_stops n i f)
        where
          go : (x : Progress) → Stops x → ((i : ℕ) (f : Frame) → Stops (run_of (machine program c room) n i f)) → Stops (follow x (run_of (machine program c room) n))
          go (next i f) p ih = ih i f
          go (done i f) p ih = tt
          go (stop f) p ih = p

      whole_stops : (g : ℕ) (m : List ℕ) → Stops (run_to_end program c room g m)
      unfolding run_to_end
      whole_stops g m = run_stops (g + 1) g (start m)

  run_gives : (own : Result (Unit {0}) VmError) (x : Call) → Gives own → Verifying x.kinds x.operands → Gives (lengths_check x) → Stops (ran x)
      → P (answer_number own x)
  run_gives own x q h b r =
      let v = verify_of x.kinds x.operands x.state.used in
      let t = then_gives v (Ok tt) (verify_gives x.kinds x.operands x.state.used h) h.zero in
      go (checks_of own (Ok tt) x) (ran x)
      (then_gives (lengths_check x) (then_check own (then_check v (Ok tt))) b (then_gives own (then_check v (Ok tt)) q t))
      r (whole_ends (decode x.kinds x.operands) x.caller (length x.storage) x.limit (take x.state.used x.storage))
    where
      go : (c : Result (Unit {0}) VmError) (o : Progress) → Gives c → Stops o → Ended o → P (run_answer_numbered (after_check c x (of_run x o)).answer).number
      go (Err f) o p q z = p
      go (Ok tt) (next i fr) p q z = absurd z
      go (Ok tt) (done i fr) p q z = p
      go (Ok tt) (stop f) p q z = q

-- the numbers of the gate, of the verifier but 34 and 44, and of a run but 51
abbrev gates : List ℕ
gates = 0 ∷ 35 ∷ 36 ∷ 37 ∷ 38 ∷ 39 ∷ 40 ∷ []

abbrev verifies : List ℕ
verifies = 0 ∷ 41 ∷ 42 ∷ 43 ∷ 45 ∷ []

abbrev runs : List ℕ
runs = 46 ∷ 47 ∷ 48 ∷ 49 ∷ 50 ∷ []

module _ (ns : List ℕ) where
  gate_among : all_in gates ns ≡ true → (g : Result (Unit {0}) ContextError) → Gives (Among ns) (gate_check g)
  gate_among h g = widen gates ns (check_numbered (gate_check g)).number h (go g)
    where
      go : (g : Result (Unit {0}) ContextError) → Gives (Among gates) (gate_check g)
      go (Ok tt) = refl
      go (Err e) = gate_gives (Err e)

  verifying : all_in verifies ns ≡ true → (ks vs : List ℕ) → (eqb (length ks) (length vs) ≡ false → Among ns 34)
      → Each (λ k. leb k 15 ≡ false → Among ns 44) ks → Verifying (Among ns) ks vs
  verifying h ks vs l k =
      let p : (n : ℕ) → Among verifies n → Among ns n = λ n e. widen verifies ns n h e in
      record { zero = p 0 refl; lengths = l; empty = p 41 refl; large = p 42 refl; used = p 43 refl; kinds = k; target = p 45 refl }

  running : all_in runs ns ≡ true → Running (Among ns)
  running h =
      let p : (n : ℕ) → Among runs n → Among ns n = λ n e. widen runs ns n h e in
      record { gas = p 46 refl; underflow = p 47 refl; items = p 48 refl; divisor = p 49 refl; slots = p 50 refl }

-- known kinds are none that 44 refuses
known_44 : {P : Type 0} {ks : List ℕ} → KnownKinds ks → Each (λ k. leb k 15 ≡ false → P) ks
known_44 h = each_of (λ k l e. absurd (omega (arith, leb-false k 15 e))) h

pub verify_relied : (ks vs : List ℕ) (used : ℕ) → VerifyRelied ks vs used
verify_relied ks vs used = record {
  gives =
      let ns : List ℕ = 0 ∷ 34 ∷ 41 ∷ 42 ∷ 43 ∷ 44 ∷ 45 ∷ [] in
      verify_gives (Among ns) ks vs used (verifying ns refl ks vs (λ e. refl) (each (λ k e. refl) ks));
  known = λ l h.
      verify_gives (Among verifies) ks vs used
      (verifying verifies refl ks vs (λ e. absurd (eqb-false (length ks) (length vs) e l)) (known_44 h));
}

-- buffers that fit are none that 34 refuses
fits : (x : Call) → Lent x → buffers_fit (length x.kinds) (length x.operands) (length x.stack) (length x.work) (length x.storage) x.state.used ≡ true
fits x l =
    and_both (eqb (length x.kinds) (length x.operands) && leb 4096 (length x.stack)) (eqb (length x.work) (length x.storage) && leb x.state.used (length x.storage))
    (and_both (eqb (length x.kinds) (length x.operands)) (leb 4096 (length x.stack)) (eq-eqb (length x.kinds) (length x.operands) l.program) (le-leb 4096 (length x.stack) l.stack))
    (and_both (eqb (length x.work) (length x.storage)) (leb x.state.used (length x.storage)) (eq-eqb (length x.work) (length x.storage) l.same) (le-leb x.state.used (length x.storage) l.within))

-- a call whose own test gives some of the numbers ns
module _ (ns : List ℕ) (own : Result (Unit {0}) VmError) (x : Call) (o : Gives (Among ns) own) (v : all_in verifies ns ≡ true) where
  fit : Bool
  fit = buffers_fit (length x.kinds) (length x.operands) (length x.stack) (length x.work) (length x.storage) x.state.used

  zero_among : Among ns 0
  zero_among = widen verifies ns 0 v refl

  -- any buffers and any kinds
  any_gives : Among ns 34 → Among ns 44 → Stops (Among ns) (ran x) → Among ns (answer_number own x)
  unfolding fit
  any_gives b k r =
      run_gives (Among ns) own x o (verifying ns v x.kinds x.operands (λ e. b) (each (λ i e. k) x.kinds))
      (need_gives (Among ns) fit BufferLengths (Ok tt) (λ e. b) zero_among) r

  outside_gives : Among ns 34 → Among ns 44 → all_in runs ns ≡ true → ((i : ℕ) → i < 65536 → length x.storage ≤ i → Among ns 51)
      → Among ns (answer_number own x)
  outside_gives b k r h =
      any_gives b k
      (whole_stops (Among ns) (running ns r) (decode x.kinds x.operands) x.caller (length x.storage)
      (each (λ op e l q. h op.operand l q) (decode x.kinds x.operands)) x.limit (take x.state.used x.storage))

  handed_gives : all_in runs ns ≡ true → Handed x → Among ns (answer_number own x)
  unfolding fit
  handed_gives r h =
      run_gives (Among ns) own x o
      (verifying ns v x.kinds x.operands (λ e. absurd (eqb-false (length x.kinds) (length x.operands) e h.lent.program)) (known_44 h.known))
      (need_gives (Among ns) fit BufferLengths (Ok tt)
      (λ e. false_true (sym e ∙ fits x h.lent)) zero_among)
      (whole_stops (Among ns) (running ns r) (decode x.kinds x.operands) x.caller (length x.storage)
      (each_of (λ op p e l q. absurd (let z = p e l in omega arith)) h.stores) x.limit (take x.state.used x.storage))

-- under the limit 0 a run is over at its first operation: a Halt, or no kind, ends it, and any other can't be paid for
abbrev OverAt : ℕ → Progress → Type 0
OverAt k o = (15 ≤ k → (h : ℕ) × (fr : Frame) × (o ≡ done h fr)) × (k < 15 → (price : ℕ) × (o ≡ stop (out_of_gas price 0)))

first_over : (c room : ℕ) (fr : Frame) (o : Operation) → OverAt o.kind (pay 0 fr (act_of c room o fr))
first_over c room fr o = (
  λ h. (0 - price, after, rw (effect_high c room o.kind o.operand h) (afforded 0 price fr ends (omega (arith, unpriced o.kind h)))),
  λ h. (price, unpaid 0 price fr (effect_of c room o fr.stack fr.storage) (omega (arith, priced o.kind h))),
)
  where
    price : ℕ
    price = price_of o (length fr.storage)

    after : Frame
    after = record { pos = fr.pos; stack = fr.stack; storage = fr.storage; ops = fr.ops + 1 }

follow_over : (k : ℕ) (o : Progress) (more : ℕ → Frame → Progress) → OverAt k o → OverAt k (follow o more)
follow_over k o more h = (λ l. ((h.0 l).0, (h.0 l).1, rw (h.0 l).2), λ l. ((h.1 l).0, rw (h.1 l).1))

unmetered_over : (program : List Operation) (c room : ℕ) (m : List ℕ) → OverAt (get_or program 0 halt).kind (run_to_end program c room 0 m)
unfolding run_to_end run_of
unmetered_over [] c room m = (λ h. (0, start m, refl), λ h. absurd (omega arith))
unmetered_over (op ∷ program) c room m =
    rw (lt-ltb 0 (suc (length program)) (omega arith))
    (follow_over op.kind (pay 0 (start m) (act_of c room op (start m))) (run_of (machine (op ∷ program) c room) 0) (first_over c room (start m) op))

unmetered_stops : (P : ℕ → Type 0) → P 46 → (program : List Operation) (c room : ℕ) (m : List ℕ) → Stops P (run_to_end program c room 0 m)
unmetered_stops P g program c room m = go (dec_lt (get_or program 0 halt).kind 15) (unmetered_over program c room m)
  where
    go : {o : Progress} → Dec ((get_or program 0 halt).kind < 15) → OverAt (get_or program 0 halt).kind o → Stops P o
    go (yes h) e = rw (e.1 h).1 g
    go (no h) e = rw (e.0 (omega arith)).2 tt

-- tests that pass
need_passed : (b : Bool) (f : VmError) (c : Result (Unit {0}) VmError) → need b (Err f) c ≡ Ok tt → (b ≡ true) × (c ≡ Ok tt)
need_passed true f c e = (refl, e)
need_passed false f c e = absurd (let z : ◌≡◌ {A = ℕ} 0 1 = cc in omega arith)

then_passed : (c d : Result (Unit {0}) VmError) → then_check c d ≡ Ok tt → (c ≡ Ok tt) × (d ≡ Ok tt)
then_passed (Ok tt) d e = (refl, e)
then_passed (Err f) d e = absurd (let z : ◌≡◌ {A = ℕ} 0 1 = cc in omega arith)

-- a program that verifies has a first operation, of a known kind
record First (ks vs : List ℕ) : Type 0 where
  kind : (get_or (decode ks vs) 0 halt).kind ≡ get_or ks 0 0
  known : get_or ks 0 0 ≤ 15

first_of : (ks vs : List ℕ) → eqb (length ks) (length vs) ≡ true → ltb 0 (length ks) ≡ true
    → operations_check (length ks) ks vs ≡ Ok tt → First ks vs
unfolding decode operations_check
first_of [] vs l s e = absurd (omega (arith, ltb-true 0 0 s))
first_of (k ∷ ks) [] l s e = absurd (omega (arith, eqb-true (suc (length ks)) 0 l))
first_of (k ∷ ks) (v ∷ vs) l s e =
    let p = (then_passed (operation_check (suc (length ks)) (operation k v)) _ e).0 in
    record { kind = refl; known = leb-true k 15 (need_passed (leb k 15) UnknownKind _ p).0 }

verified-first : (ks vs : List ℕ) (used : ℕ) → verify_of ks vs used ≡ Ok tt → First ks vs
verified-first ks vs used e =
    let a = need_passed (eqb (length ks) (length vs)) BufferLengths _ e in
    let b = need_passed (ltb 0 (length ks)) EmptyProgram _ a.1 in
    let c = need_passed (leb (length ks) 65536) (ProgramTooLarge (length ks)) _ b.1 in
    let d = need_passed (leb used 65536) (StorageTooLarge used) _ c.1 in
    first_of ks vs a.0 b.0 d.1

-- what a call that passes its tests answers under the limit 0, by the kind of its first operation
abbrev ByFirst : ℕ → ℕ → Type 0
ByFirst k n = (k ≡ 15 → n ≡ 0) × ((k ≡ 15 → ⊥) → n ≡ 46)

over_number : (x : Call) (k : ℕ) (o : Progress) → k ≤ 15 → OverAt k o → ByFirst k (run_answer_numbered (of_run x o).answer).number
over_number x k o l h = (λ e. rw (h.0 (omega arith)).2, λ e. rw (h.1 (omega arith)).1)

passed_number : (own : Result (Unit {0}) VmError) (x : Call) → x.limit ≡ 0 → checks_of own (Ok tt) x ≡ Ok tt
    → ByFirst (get_or x.kinds 0 0) (answer_number own x)
passed_number own x z e =
    subst (λ (c : Result (Unit {0}) VmError). ByFirst (get_or x.kinds 0 0) (run_answer_numbered (after_check c x (performed x)).answer).number) (sym e)
    (over_number x (get_or x.kinds 0 0) (ran x) first.known over_first)
  where
    first : First x.kinds x.operands
    first =
        let v = verify_of x.kinds x.operands x.state.used in
        let a = (then_passed (lengths_check x) (then_check own (then_check v (Ok tt))) e).1 in
        let b = (then_passed own (then_check v (Ok tt)) a).1 in
        verified-first x.kinds x.operands x.state.used (then_passed v (Ok tt) b).0

    over_first : OverAt (get_or x.kinds 0 0) (ran x)
    over_first =
        rw (← first.kind, z)
        (unmetered_over (decode x.kinds x.operands) x.caller (length x.storage) (take x.state.used x.storage))

pub run_relied : (x : Call) → RunRelied x
run_relied x = record {
  metered =
      let ns : List ℕ = 0 ∷ 34 ∷ 41 ∷ 42 ∷ 43 ∷ 44 ∷ 45 ∷ 46 ∷ 47 ∷ 48 ∷ 49 ∷ 50 ∷ 51 ∷ [] in
      outside_gives ns (Ok tt) x refl refl refl refl refl (λ i l q. refl);
  transition = λ gate.
      let ns : List ℕ = 0 ∷ 34 ∷ 35 ∷ 36 ∷ 37 ∷ 38 ∷ 39 ∷ 40 ∷ 41 ∷ 42 ∷ 43 ∷ 44 ∷ 45 ∷ 46 ∷ 47 ∷ 48 ∷ 49 ∷ 50 ∷ 51 ∷ [] in
      outside_gives ns (gate_check gate) x (gate_among ns refl gate) refl refl refl refl (λ i l q. refl);
  unmetered = λ gate z.
      let ns : List ℕ = 0 ∷ 34 ∷ 35 ∷ 36 ∷ 37 ∷ 38 ∷ 39 ∷ 40 ∷ 41 ∷ 42 ∷ 43 ∷ 44 ∷ 45 ∷ 46 ∷ [] in
      any_gives ns (gate_check gate) x (gate_among ns refl gate) refl refl refl
      (rw z (unmetered_stops (Among ns) refl (decode x.kinds x.operands) x.caller (length x.storage) (take x.state.used x.storage)));
  halts = λ gate z e. (passed_number (gate_check gate) x z e).0;
  others = λ gate z e. (passed_number (gate_check gate) x z e).1;
  metered_roomy = λ h.
      let ns : List ℕ = 0 ∷ 34 ∷ 41 ∷ 42 ∷ 43 ∷ 44 ∷ 45 ∷ 46 ∷ 47 ∷ 48 ∷ 49 ∷ 50 ∷ [] in
      outside_gives ns (Ok tt) x refl refl refl refl refl (λ i l q. absurd (omega arith));
  transition_roomy = λ h gate.
      let ns : List ℕ = 0 ∷ 34 ∷ 35 ∷ 36 ∷ 37 ∷ 38 ∷ 39 ∷ 40 ∷ 41 ∷ 42 ∷ 43 ∷ 44 ∷ 45 ∷ 46 ∷ 47 ∷ 48 ∷ 49 ∷ 50 ∷ [] in
      outside_gives ns (gate_check gate) x (gate_among ns refl gate) refl refl refl refl (λ i l q. absurd (omega arith));
  metered_handed = λ h.
      let ns : List ℕ = 0 ∷ 41 ∷ 42 ∷ 43 ∷ 45 ∷ 46 ∷ 47 ∷ 48 ∷ 49 ∷ 50 ∷ [] in
      handed_gives ns (Ok tt) x refl refl refl h;
  transition_handed = λ h gate.
      let ns : List ℕ = 0 ∷ 35 ∷ 36 ∷ 37 ∷ 38 ∷ 39 ∷ 40 ∷ 41 ∷ 42 ∷ 43 ∷ 45 ∷ 46 ∷ 47 ∷ 48 ∷ 49 ∷ 50 ∷ [] in
      handed_gives ns (gate_check gate) x (gate_among ns refl gate) refl refl h;
}
