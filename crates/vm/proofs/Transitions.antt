-- Theorems of the calls: what a refusal leaves, by its number, and how many operations a success has executed.
use Rattle.std.specs.Prelude.{Result, Ok, Err}
use Rattle.context.specs.declared.ContextError.{ContextError}
use Prim.Native.Nat.{ℕ, ◌+◌, ◌-◌, ◌≤◌}
use native.Mathlib.Omega.{arith}
use mathlib.Core.Path.{◌≡◌, refl, ap}
use lib.ListN.{length, take}
use Rattle.machine.specs.Machine.{Progress, next, done, stop, decode, run_to_end}
use Rattle.machine.proofs.Runs.{Counted, whole_counted, Ended, whole_ends}
use Rattle.machine.proofs.Faults.{Stops, whole_stops}
use Rattle.checks.specs.declared.VmError.{VmError}
use Rattle.checks.specs.Verify.{gate_check}
use Rattle.perform.specs.declared.State.{State}
use Rattle.perform.specs.declared.Success.{Success}
use Rattle.perform.specs.Call.{Call}
use Rattle.perform.specs.Run.{RunResult, refusal_of, undone, of_run}
use Rattle.vm.specs.Transition.{after_check, checks_of, run_under, metered_of, transition_of}
use Rattle.vm.specs.Refusals.{refusal_number, Leaves}
use Rattle.vm.proofs.Refusals.{Tested, gate_tested, checks_tested, FromRun, from_run, short_of}

not_success : {A : Type 0} {success : Success} (f : VmError) → ◌≡◌ {A = Result Success VmError} (Err f) (Ok success) → A
not_success f e = let z : ◌≡◌ {A = ℕ} 0 1 = cc in absurd (omega arith)

-- what a call books leaves a refused run as it is, and of a success the counts
pub record Books (book : RunResult → RunResult) : Type 0 where
  pub refused : (f : VmError) (x : Call) → book (undone f x) ≡ undone f x
  pub succeeded : (t : RunResult) {success : Success} → t.answer ≡ Ok success → (later : State) × ((book t).answer ≡ Ok (record success { state = later }))

-- a call with its own tests before and behind the verifier, which give only 34 to 45, and with what it books
module _ (before behind : Result (Unit {0}) VmError) (book : RunResult → RunResult) (books : Books book) (x : Call) where
  abbrev ran : Progress
  ran = run_to_end (decode x.kinds x.operands) x.caller (length x.storage) x.limit (take x.state.used x.storage)

  abbrev result : Result (Unit {0}) VmError → Progress → RunResult
  result c o = after_check c x (book (of_run x o))

  pub leaves : Tested before → Tested behind → (f : VmError) → (run_under before behind book x).answer ≡ Err f → Leaves f x (run_under before behind book x)
  leaves p q f =
      go (checks_of before behind x) ran (checks_tested before behind x p q) (whole_stops x.limit (decode x.kinds x.operands) x.caller (length x.storage) (take x.state.used x.storage)) (whole_ends (decode x.kinds x.operands) x.caller (length x.storage) x.limit (take x.state.used x.storage))
    where
      go : (c : Result (Unit {0}) VmError) (o : Progress) → Tested c → Stops x.limit o → Ended o → (result c o).answer ≡ Err f → Leaves f x (result c o)
      go (Err r) o t s z e =
          let i : r ≡ f = cc in
          let t' : Tested (Err f) = rw i at t in
          record { least = t'.0; most = omega (arith, t'.1); state = refl; storage = refl; tested = λ h. (refl, refl); undone = λ h. absurd (omega (arith, t'.1)); short = λ price left y. absurd (let n : refusal_number f ≡ 46 = ap refusal_number y in omega (arith, t'.1)) }
      go (Ok tt) (next h fr) t s z e = absurd z
      go (Ok tt) (stop r) t s z e =
          let b : book (undone (refusal_of r) x) ≡ undone (refusal_of r) x = books.refused (refusal_of r) x in
          let i : refusal_of r ≡ f = cc in
          let n : FromRun f = rw i at (from_run r) in
          rw b (record { least = omega (arith, n.least); most = n.most; state = refl; storage = refl; tested = λ h. absurd (omega (arith, n.least)); undone = λ h. (refl, refl); short = λ price left y. short_of x.limit r s price left (rw i y) })
      go (Ok tt) (done h fr) t s z e = let l = books.succeeded (of_run x (done h fr)) refl in absurd (let y : ◌≡◌ {A = ℕ} 0 1 = cc in omega arith)

  -- the operations of a success are at most one more than the gas spent, which is at most the limit
  pub bounded : (success : Success) → (run_under before behind book x).answer ≡ Ok success → (success.operations ≤ success.gas_spent + 1) × (success.gas_spent ≤ x.limit)
  bounded success =
      go (checks_of before behind x) ran (whole_counted (decode x.kinds x.operands) x.caller (length x.storage) x.limit (take x.state.used x.storage)) (whole_stops x.limit (decode x.kinds x.operands) x.caller (length x.storage) (take x.state.used x.storage))
    where
      go : (c : Result (Unit {0}) VmError) (o : Progress) → Counted x.limit o → Stops x.limit o → (result c o).answer ≡ Ok success → (success.operations ≤ success.gas_spent + 1) × (success.gas_spent ≤ x.limit)
      go (Err r) o b q e = not_success r e
      go (Ok tt) (next h fr) b q e = not_success _ (rw (books.refused _ x) at e)
      go (Ok tt) (stop r) b q e = not_success _ (rw (books.refused _ x) at e)
      go (Ok tt) (done h fr) b q e =
          let l = books.succeeded (of_run x (done h fr)) refl in
          let i : fr.ops ≡ success.operations = cc in
          let j : x.limit - h ≡ success.gas_spent = cc in
          omega arith

-- nothing is booked
nothing : Books (λ r. r)
nothing = record { refused = λ f x. refl; succeeded = λ t e. (_, e) }

-- a metered run and a transition
pub metered_leaves : (x : Call) (f : VmError) → (metered_of x).answer ≡ Err f → Leaves f x (metered_of x)
metered_leaves x = leaves (Ok tt) (Ok tt) (λ r. r) nothing x tt tt

pub transition_leaves : (gate : Result (Unit {0}) ContextError) (x : Call) (f : VmError) → (transition_of gate x).answer ≡ Err f → Leaves f x (transition_of gate x)
transition_leaves gate x = leaves (gate_check gate) (Ok tt) (λ r. r) nothing x (gate_tested gate) tt
