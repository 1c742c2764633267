-- What a run leaves, from what its parts leave.
use Rattle.std.specs.Prelude.{Result, Ok, Err}
use Prim.Native.Nat.{ℕ, ◌+◌, ◌-◌, ◌≤◌}
use native.Mathlib.Omega.{arith}
use mathlib.Core.Path.{◌≡◌, refl, sym, ap, ◌∙◌}
use mathlib.Core.Bool.{◌&&◌}
use mathlib.Core.List.{List, ◌++◌}
use lib.ListN.{length, take, replicate}
use lib.Seq.{length-take-le}
use lib.Dec.{leb, ltb}
use Rattle.base.specs.Code.Stack.{stack_of}
use Rattle.base.proofs.Stack.{length_stack, reverse_stack}
use Rattle.machine.specs.declared.Regs.{Regs}
use Rattle.machine.specs.declared.Refusal.{Refusal}
use Rattle.machine.specs.declared.Status.TheVariants.{Going, Ended, Refused}
use Rattle.checks.specs.declared.VmError.{VmError}
use Rattle.checks.specs.Numbers.{vm_error_numbered}
use Rattle.machine.specs.Machine.{Progress, next, done, stop, decode, run_to_end}
use Rattle.machine.specs.Code.Alike.{AlikeBut}
use Rattle.machine.specs.Code.Registers.{frame_of, fault_of, progress_of, RefinesRun}
use Rattle.perform.specs.Code.Needed.{needed, changed, Copied, Serves}
use Rattle.perform.specs.declared.Success.{Success}
use Rattle.perform.specs.Call.{Call}
use Rattle.perform.specs.Lent.{Lent}
use Rattle.perform.specs.Run.{of_run, refusal_of, Meets}
use Rattle.perform.proofs.Needed.{served, brought}

-- the run on a work buffer w₀ with the slots that it needs is the run on the storage, but for slots that it can't tell
pub on_work : (x : Call) (w₀ s w : List ℕ) (from r : Regs) → Lent x → length w₀ ≡ length x.work
    → Copied (λ j. needed x.kinds x.operands x.state.used j && ltb j x.state.used) x.storage x.work w₀
    → from ≡ record { pos = 0; gas = x.limit; items = 0; used = x.state.used; ops = 0; status = Going }
    → RefinesRun (decode x.kinds x.operands) x.caller from r x.stack w₀ s w
    → AlikeBut (Serves x.kinds x.operands x.state.used x.storage) (progress_of s w r) (run_to_end (decode x.kinds x.operands) x.caller (length x.storage) x.limit (take x.state.used x.storage))
unfolding run_to_end stack_of
on_work x w₀ s w from r lent long p e ran =
    let start : Regs = record { pos = 0; gas = x.limit; items = 0; used = x.state.used; ops = 0; status = Going } in
    let all : RefinesRun (decode x.kinds x.operands) x.caller start r x.stack w₀ s w = rw e at ran in
    let q : progress_of s w r ≡ run_to_end (decode x.kinds x.operands) x.caller (length x.storage) x.limit (take x.state.used w₀) = rw (← lent.same, ← long) (all.progress (x.limit + 1) (omega arith)) in
    rw q (served x.kinds x.operands x.state.used x.caller x.limit x.storage x.work w₀ lent.program p lent.within lent.same)

-- the call x, and the buffers as finish leaves them
module _ (x : Call) (r : Regs) (s' w' : List ℕ) (same : length x.work ≡ length x.storage) (ew : w' ≡ replicate (length x.work) 0) where
  -- the run's progress is o but for the storage
  module _ (o : Progress) (like : AlikeBut (Serves x.kinds x.operands x.state.used x.storage) (progress_of x.stack x.work r) o) where
    pub succeeded : (y m' : List ℕ) → r.status ≡ Ended → r.items ≤ length x.stack → r.used ≤ length x.work → s' ≡ take r.items x.stack ++ replicate (length x.stack - r.items) 0
        → Copied (λ j. changed x.kinds x.operands x.state.used j && ltb j x.state.used) x.work x.storage y → Copied (λ j. leb x.state.used j && ltb j r.used) x.work y m'
        → Meets (of_run x o) x.state (Ok (record { gas_spent = x.limit - r.gas; operations = r.ops; items = r.items; state = record { used = r.used } })) s' w' m'
    succeeded y m' one hi hu es p q =
        let d = length_stack x.stack r.items in
        let l : AlikeBut (Serves x.kinds x.operands x.state.used x.storage) (done r.gas (frame_of x.stack x.work r)) o = rw one at like in
        let u : length l.0 ≡ r.used = sym l.2.long ∙ length-take-le r.used x.work hu in
        rw l.1 (record {
          answer = rw (d, u);
          says = rw (d, u);
          state = rw u;
          stack = rw (reverse_stack x.stack r.items hi, d) es;
          work = ew;
          storage = brought x.kinds x.operands x.state.used r.used x.storage x.work l.0 y m' same hu l.2 p q;
        })

    pub undone_by : (f : VmError) (why : Refusal) → r.status ≡ Refused why → f ≡ refusal_of (fault_of why) → s' ≡ replicate (length x.stack) 0
        → Meets (of_run x o) x.state (Err f) s' w' x.storage
    undone_by f why q e es =
        let l : AlikeBut (Serves x.kinds x.operands x.state.used x.storage) (stop (fault_of why)) o = rw q at like in
        rw l (record { answer = ap Err e; says = ap vm_error_numbered e; state = refl; stack = es; work = ew; storage = refl })

-- of stack and work a result has the lengths alone
abbrev pub lending : List ℕ → List ℕ → Call → Call
lending s w x = record { kinds = x.kinds; operands = x.operands; caller = x.caller; limit = x.limit; state = x.state; stack = s; work = w; storage = x.storage }

pub carried : (x : Call) (s w : List ℕ) (o : Progress) {a : Result Success VmError} {s' w' m' : List ℕ} → length s ≡ length x.stack → length w ≡ length x.work
    → Meets (of_run (lending s w x) o) x.state a s' w' m' → Meets (of_run x o) x.state a s' w' m'
carried x s w (next h fr) p q d = rw (← p, ← q) d
carried x s w (done h fr) p q d = rw (← p, ← q) d
carried x s w (stop f) p q d = rw (← p, ← q) d
