-- Rollback at the C ABI: where an export that runs a program returns a number other than 0, the storage buffer is what it was.
use Rattle.std.specs.Prelude.{Result, Ok, Err}
use Rattle.context.specs.declared.ContextError.{ContextError}
use Prim.Native.Nat.{ℕ, ◌≤◌}
use mathlib.Core.Path.{◌≡◌, refl, sym, ap, subst, ◌∙◌}
use mathlib.Core.List.{List}
use Rattle.checks.specs.declared.VmError.{VmError}
use Rattle.perform.specs.declared.Success.{Success}
use Rattle.perform.specs.Call.{Call}
use Rattle.perform.specs.Run.{RunResult}
use Rattle.perform.specs.Numbers.{run_answer_numbered}
use Rattle.vm.specs.Refusals.{Leaves, refusal_number}
use Rattle.vm.specs.Transition.{metered_of, transition_of}
use Rattle.vm.proofs.Transitions.{metered_leaves, transition_leaves}
use Rattle.atc_vm.specs.Calls.{Ran}
use Rattle.exported.specs.Rollback.{RolledBack}

module _ (x : Call) (t : RunResult) (stack work storage words : List ℕ) (r : ℕ) (ran : Ran t stack work storage words r) (refused : r ≡ 0 → ⊥) where
  by_answer : ((f : VmError) → t.answer ≡ Err f → Leaves f x t) → RolledBack x stack work storage r
  by_answer leaves = go t.answer refl
    where
      go : (a : Result Success VmError) → t.answer ≡ a → RolledBack x stack work storage r
      go (Ok success) e = absurd (refused (ran.tells.number ∙ ap (λ (a : Result Success VmError). (run_answer_numbered a).number) e))
      go (Err f) e =
          let l = leaves f e in
          let n : r ≡ refusal_number f = ran.tells.number ∙ ap (λ (a : Result Success VmError). (run_answer_numbered a).number) e in
          record {
            least = subst (λ (m : ℕ). 34 ≤ m) (sym n) l.least;
            most = subst (λ (m : ℕ). m ≤ 51) (sym n) l.most;
            kept = ran.storage_left ∙ l.storage;
            tested = λ h. let p = l.tested (subst (λ (m : ℕ). m ≤ 45) n h) in (ran.stack_left ∙ p.0, ran.work_left ∙ p.1);
            undone = λ h. let p = l.undone (subst (λ (m : ℕ). 46 ≤ m) n h) in (ran.stack_left ∙ p.0, ran.work_left ∙ p.1);
          }

-- atc_run_with_gas
pub metered_rollback : (x : Call) (stack work storage words : List ℕ) (r : ℕ) → Ran (metered_of x) stack work storage words r → (r ≡ 0 → ⊥)
    → RolledBack x stack work storage r
metered_rollback x stack work storage words r ran refused = by_answer x (metered_of x) stack work storage words r ran refused (metered_leaves x)

-- atc_execute_state_transition_with_gas, and atc_execute_state_transition with a limit of 0
pub transition_rollback : (gate : Result (Unit {0}) ContextError) (x : Call) (stack work storage words : List ℕ) (r : ℕ) → Ran (transition_of gate x) stack work storage words r
    → (r ≡ 0 → ⊥) → RolledBack x stack work storage r
transition_rollback gate x stack work storage words r ran refused =
    by_answer x (transition_of gate x) stack work storage words r ran refused (transition_leaves gate x)
