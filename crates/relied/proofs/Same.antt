-- What the lent buffers hold past the used slots does not matter.
use Rattle.std.specs.Prelude.{Result, Ok, Err}
use Prim.Native.Nat.{ℕ, ◌-◌}
use mathlib.Core.Path.{◌≡◌, refl, sym, ap, ◌∙◌}
use mathlib.Core.List.{List}
use lib.ListN.{length, take, drop}
use lib.Seq.{take_at}
use Rattle.machine.specs.Machine.{Progress, next, done, stop}
use Rattle.checks.specs.declared.VmError.{VmError}
use Rattle.perform.specs.declared.Success.{Success}
use Rattle.perform.specs.Call.{Call}
use Rattle.perform.specs.Run.{RunResult, of_run}
use Rattle.vm.specs.Transition.{after_check, checks_of, run_under}
use Rattle.relied.specs.Running.{SameRun}
use Rattle.relied.proofs.Running.{ran}

refused : (t u : RunResult) (f : VmError) → t.answer ≡ Err f → u.answer ≡ Err f → SameRun t u
refused t u f p q = record { answer = p ∙ sym q; success = λ w e. let z : Err f ≡ Ok w = sym p ∙ e in cc }

-- the header: "What the stack and work buffers hold before doesn't matter, nor what the storage buffer holds past `used`";
-- `Vm::perform` lends what former runs left there. `own` is the call's own test
module _ (own : Result (Unit {0}) VmError) (x : Call) (stack work storage : List ℕ)
    (ls : length x.stack ≡ length stack) (lw : length x.work ≡ length work) (lm : length x.storage ≡ length storage)
    (used : take x.state.used x.storage ≡ take x.state.used storage) where
  -- the same call on other buffers
  abbrev other : Call
  other = record {
    kinds = x.kinds;
    operands = x.operands;
    caller = x.caller;
    limit = x.limit;
    state = x.state;
    stack = stack;
    work = work;
    storage = storage;
  }

  result : Call → Result (Unit {0}) VmError → Progress → RunResult
  result z c o = after_check c z (of_run z o)

  by_progress : (c : Result (Unit {0}) VmError) (o : Progress) → SameRun (result x c o) (result other c o)
  unfolding result
  by_progress (Err f) o = refused _ _ f refl refl
  by_progress (Ok tt) (next h fr) = refused _ _ _ refl refl
  by_progress (Ok tt) (stop f) = refused _ _ _ refl refl
  by_progress (Ok tt) (done h fr) = record {
    answer = refl;
    success = λ w e.
        let a : ◌≡◌ {A = Success} (record { gas_spent = x.limit - h; operations = fr.ops; items = length fr.stack; state = record { used = length fr.storage } }) w = cc in
        let j : length fr.storage ≡ w.state.used = ap (λ (v : Success). v.state.used) a in
        (rw ls, rw lw, take_at fr.storage (drop (length fr.storage) x.storage) w.state.used j ∙ sym (take_at fr.storage (drop (length fr.storage) storage) w.state.used j));
  }

  by_both : (c c' : Result (Unit {0}) VmError) (o o' : Progress) → c ≡ c' → o ≡ o' → SameRun (result x c o) (result other c' o')
  by_both c c' o o' p q = rw (← p, ← q) (by_progress c o)

  pub same_run : SameRun (run_under own (Ok tt) (λ r. r) x) (run_under own (Ok tt) (λ r. r) other)
  unfolding result
  same_run = by_both (checks_of own (Ok tt) x) (checks_of own (Ok tt) other) (ran x) (ran other) (rw (ls, lw, lm)) (rw (used, lm))
