-- Theorems of runs: an operation that goes on costs at least 1, a run in pieces, its count and its end.
use Rattle.std.proofs.Common.{◌≡◌, ℕ, zero, suc, ◌+◌, ◌-◌, ◌<◌, ◌≤◌, Bool, true, false, cond, ltb, List, length, get_or, refl, suc-add, zero-add, arith, le-ltb, lt-ltb}
use native.Mathlib.Decide.{dec_lt}
use Rattle.kinds.specs.Kinds.{Operation, kind_of}
use Rattle.kinds.proofs.ByKind.{priced as kind-priced}
use Rattle.machine.specs.Machine.{out_of_gas, Frame, Effect, moves, jumps, ends, fails, Act, over, costs, Progress, next, done, stop, effect_of, halt, settle, pay, act_of, machine, follow, run_of, start, run_to_end}
use Rattle.machine.proofs.Program.{effect_high}

-- an operation that goes on costs at least 1
abbrev pub PricedAct : Act → Type 0
PricedAct over = Unit {0}
PricedAct (costs p (moves s m)) = 1 ≤ p
PricedAct (costs p (jumps t s m)) = 1 ≤ p
PricedAct (costs p ends) = Unit {0}
PricedAct (costs p (fails f)) = Unit {0}

abbrev pub Priced : (Frame → Act) → Type 0
Priced act = (fr : Frame) → PricedAct (act fr)

priced_effect : (p : ℕ) (e : Effect) → 1 ≤ p → PricedAct (costs p e)
priced_effect p (moves s m) h = h
priced_effect p (jumps t s m) h = h
priced_effect p ends h = tt
priced_effect p (fails f) h = tt

priced_op : (c room : ℕ) (o : Operation) (fr : Frame) → PricedAct (act_of c room o fr)
priced_op c room o fr = go (dec_lt o.kind 15)
  where
    go : Dec (o.kind < 15) → PricedAct (act_of c room o fr)
    go (yes h) = priced_effect (kind_of o.kind).price (effect_of c room o fr.stack fr.storage) (kind-priced o.kind h)
    go (no h) = rw (effect_high c room o.kind o.operand (omega arith)) tt

pub priced : (program : List Operation) (c room : ℕ) → Priced (machine program c room)
priced program c room fr = go (ltb fr.pos (length program))
  where
    go : (b : Bool) → PricedAct (cond b (act_of c room (get_or program fr.pos halt) fr) over)
    go true = priced_op c room (get_or program fr.pos halt) fr
    go false = tt

-- a price above the gas left refuses, whatever the operation would do; any other is taken
pub unpaid : (g p : ℕ) (fr : Frame) (e : Effect) → g < p → pay g fr (costs p e) ≡ stop (out_of_gas p g)
unpaid g p fr e h = rw (lt-ltb g p h)

pub afforded : (g p : ℕ) (fr : Frame) (e : Effect) → p ≤ g → pay g fr (costs p e) ≡ settle (g - p) fr e
afforded g p fr e h = rw (le-ltb g p h)

-- n operations and then m more are n + m operations
pub split : (act : Frame → Act) (n m g : ℕ) (fr : Frame) → run_of act (n + m) g fr ≡ follow (run_of act n g fr) (run_of act m)
unfolding run_of
split act zero m g fr = rw zero-add
split act (suc n) m g fr = rw suc-add (go (pay g fr (act fr)) (λ h f. split act n m h f))
  where
    go : (o : Progress) → ((h : ℕ) (f : Frame) → run_of act (n + m) h f ≡ follow (run_of act n h f) (run_of act m))
        → follow o (run_of act (n + m)) ≡ follow (follow o (run_of act n)) (run_of act m)
    go (next h f) ih = ih h f
    go (done h f) ih = refl
    go (stop e) ih = refl

-- what a run has counted: a run that goes on has paid 1 or more for each operation, and a done one for each but a Halt
abbrev pub Counted : ℕ → Progress → Type 0
Counted n (next h fr) = fr.ops + h ≤ n
Counted n (done h fr) = fr.ops + h ≤ n + 1
Counted n (stop f) = Unit {0}

-- operations and gas together never rise but by a last Halt
pub counted : (act : Frame → Act) → Priced act → (n g : ℕ) (fr : Frame) → Counted (fr.ops + g) (run_of act n g fr)
unfolding run_of
counted act pr zero g fr = omega arith
counted act pr (suc n) g fr = go (act fr) (pr fr) (λ h f l. more (f.ops + h) (fr.ops + g) (run_of act n h f) l (counted act pr n h f))
  where
    more : (a b : ℕ) (o : Progress) → a ≤ b → Counted a o → Counted b o
    more a b (next h f) l q = omega arith
    more a b (done h f) l q = omega arith
    more a b (stop f) l q = tt

    effect : (p : ℕ) (e : Effect) → p ≤ g → PricedAct (costs p e) → ((h : ℕ) (f : Frame) → f.ops + h ≤ fr.ops + g → Counted (fr.ops + g) (run_of act n h f)) → Counted (fr.ops + g) (follow (settle (g - p) fr e) (run_of act n))
    effect p (moves s m) l one ih = ih (g - p) (record { pos = fr.pos + 1; stack = s; storage = m; ops = fr.ops + 1 }) (omega arith)
    effect p (jumps t s m) l one ih = ih (g - p) (record { pos = t; stack = s; storage = m; ops = fr.ops + 1 }) (omega arith)
    effect p ends l one ih = omega arith
    effect p (fails f) l one ih = tt

    paid : (p : ℕ) (e : Effect) → PricedAct (costs p e) → ((h : ℕ) (f : Frame) → f.ops + h ≤ fr.ops + g → Counted (fr.ops + g) (run_of act n h f)) → Dec (g < p) → Counted (fr.ops + g) (follow (pay g fr (costs p e)) (run_of act n))
    paid p e one ih (yes l) = rw (unpaid g p fr e l) tt
    paid p e one ih (no l) = let k : p ≤ g = omega arith in rw (afforded g p fr e k) (effect p e k one ih)

    go : (a : Act) → PricedAct a → ((h : ℕ) (f : Frame) → f.ops + h ≤ fr.ops + g → Counted (fr.ops + g) (run_of act n h f)) → Counted (fr.ops + g) (follow (pay g fr a) (run_of act n))
    go over one ih = omega arith
    go (costs p e) one ih = paid p e one ih (dec_lt g p)

abbrev pub Ended : Progress → Type 0
Ended (next h fr) = ⊥
Ended (done h fr) = Unit {0}
Ended (stop f) = Unit {0}

-- with more operations than gas a run has ended
pub ended : (act : Frame → Act) → Priced act → (n g : ℕ) (fr : Frame) → g < n → Ended (run_of act n g fr)
unfolding run_of
ended act pr zero g fr h = absurd (omega arith)
ended act pr (suc n) g fr h = go (act fr) (pr fr) (λ g₁ f. ended act pr n g₁ f)
  where
    effect : (p : ℕ) (e : Effect) → p ≤ g → PricedAct (costs p e) → ((g₁ : ℕ) (f : Frame) → g₁ < n → Ended (run_of act n g₁ f)) → Ended (follow (settle (g - p) fr e) (run_of act n))
    effect p (moves s m) k one ih = ih (g - p) (record { pos = fr.pos + 1; stack = s; storage = m; ops = fr.ops + 1 }) (omega arith)
    effect p (jumps t s m) k one ih = ih (g - p) (record { pos = t; stack = s; storage = m; ops = fr.ops + 1 }) (omega arith)
    effect p ends k one ih = tt
    effect p (fails f) k one ih = tt

    paid : (p : ℕ) (e : Effect) → PricedAct (costs p e) → ((g₁ : ℕ) (f : Frame) → g₁ < n → Ended (run_of act n g₁ f)) → Dec (g < p) → Ended (follow (pay g fr (costs p e)) (run_of act n))
    paid p e one ih (yes l) = rw (unpaid g p fr e l) tt
    paid p e one ih (no l) = let k : p ≤ g = omega arith in rw (afforded g p fr e k) (effect p e k one ih)

    go : (a : Act) → PricedAct a → ((g₁ : ℕ) (f : Frame) → g₁ < n → Ended (run_of act n g₁ f)) → Ended (follow (pay g fr a) (run_of act n))
    go over one ih = tt
    go (costs p e) one ih = paid p e one ih (dec_lt g p)

-- a whole run ends, and its operations are at most one more than the gas it spends
pub whole_ends : (program : List Operation) (c room g : ℕ) (m : List ℕ) → Ended (run_to_end program c room g m)
unfolding run_to_end
whole_ends program c room g m = ended (machine program c room) (priced program c room) (g + 1) g (start m) (omega arith)

pub whole_counted : (program : List Operation) (c room g : ℕ) (m : List ℕ) → Counted g (run_to_end program c room g m)
unfolding run_to_end
whole_counted program c room g m = rw zero-add at (counted (machine program c room) (priced program c room) (g + 1) g (start m))
