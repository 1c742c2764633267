-- What is reported of a run, from what the run ensures.
use Rattle.std.specs.Prelude.{Result}
use Prim.Native.Nat.{ℕ}
use mathlib.Core.Path.{◌≡◌, sym, ap, ◌∙◌}
use mathlib.Core.List.{List}
use Rattle.checks.specs.declared.VmError.{VmError}
use Rattle.perform.specs.declared.State.{State}
use Rattle.perform.specs.declared.Success.{Success}
use Rattle.perform.specs.Run.{Meets}
use Rattle.vm.specs.Transition.{metered_of}
use Rattle.runops.specs.declared.report.Report.{Report}
use Rattle.runops.specs.Report.{answered, call, ran, run_report}

-- a run's answer and its stack
pub record Ran (ks vs : List ℕ) (a : Result Success VmError) (s : List ℕ) : Type 0 where
  pub answer : a ≡ (ran ks vs).answer
  pub stack : s ≡ (ran ks vs).stack

pub made : {ks vs s w m : List ℕ} {from : State} {a : Result Success VmError} → Meets (metered_of (call ks vs)) from a s w m → Ran ks vs a s
unfolding ran
made h = record { answer = h.answer; stack = h.stack }

-- what is reported is what the definition says of the answer
pub reported : {ks vs s : List ℕ} {a b : Result Success VmError} {r : Report} → Ran ks vs a s → a ≡ b → r ≡ answered b s → r ≡ run_report ks vs
reported {ks} {vs} {s} {a} {b} h e l =
    l ∙ ap (λ (x : Result Success VmError). answered x s) (sym e ∙ h.answer) ∙ ap (answered (ran ks vs).answer) h.stack
