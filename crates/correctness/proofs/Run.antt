-- The result of running a tree's program, as the call's answer and buffers say it.
use Rattle.std.specs.Prelude.{Some}
use Prim.Native.Nat.{ℕ, ◌-◌, ◌≤◌, ◌<◌}
use native.Mathlib.Omega.{arith}
use native.Mathlib.Decide.{dec_lt}
use mathlib.Core.Path.{◌≡◌, refl, ap}
use mathlib.Core.List.{List}
use mathlib.Core.Logic.{◌↔◌}
use lib.ListN.{length, take, replicate, take-append-drop}
use lib.Seq.{length-take-le}
use Rattle.base.specs.Outcome as Outcome
use Rattle.machine.specs.Machine.{Fault, stack_limit_exceeded, Progress, done, stop, run_to_end}
use Rattle.numbered.specs.declared.Numbered.{Numbered}
use Rattle.checks.specs.Numbers.{vm_error_numbered}
use Rattle.perform.specs.Call.{Call}
use Rattle.perform.specs.Run.{refusal_of, of_run}
use Rattle.grammar.specs.Tree.{Tree, value_of, p_of}
use Rattle.contract.specs.Output.{operations_of}
use Rattle.correctness.specs.Counting.{FirstUnpaid, FirstFull}
use Rattle.correctness.specs.Statement.{Ending, gas_of, out_of_gas_at, stack_full, SucceedsWith, RefusedWith, TreeRun, ending_of}
use Rattle.correctness.proofs.Trees.{last, decided}
use Rattle.correctness.proofs.Trace.{Metered, onward, trace}
use Rattle.correctness.proofs.Ends.{refused_at, succeeds, less_gas, less_room, less_both}

-- the storage, the used length and the work buffer, however a run ends
pub record Kept (used : ℕ) (m : List ℕ) (r : Ending) : Type 0 where
  pub storage : r.storage ≡ m
  pub after : r.used ≡ used
  pub work : r.work ≡ replicate (length m) 0

-- a call that fits its buffers, as 34 asks
module _ (t : Tree) (v : ℕ) (e : value_of t ≡ Some v) (x : Call) (same : length x.work ≡ length x.storage) (h : x.state.used ≤ length x.storage) where
  abbrev g : ℕ
  g = x.limit

  abbrev used : List ℕ
  used = take x.state.used x.storage

  -- the run, and how the call ends with it
  abbrev progress : Progress
  progress = run_to_end (operations_of t) x.caller (length x.storage) g used

  abbrev ran : Ending
  ran = ending_of (of_run x progress)

  used_kept : length used ≡ x.state.used
  used_kept = length-take-le x.state.used x.storage h

  zeros : ◌≡◌ {A = List ℕ} (replicate (length x.work) 0) (replicate (length x.storage) 0)
  zeros = ap (λ (n : ℕ). replicate {A = ℕ} n 0) same

  kept : Kept x.state.used x.storage ran
  kept = rw (decided t v e x.caller (length x.storage) g used) (go (trace (operations_of t) g 0))
    where
      go : (z : Metered) → Kept x.state.used x.storage (ending_of (of_run x (onward z (λ g'. done g' (last t v used)))))
      go (Outcome.is g') = record { storage = rw used_kept (take-append-drop x.state.used x.storage); after = used_kept; work = zeros }
      go (Outcome.refused f) = record { storage = refl; after = refl; work = zeros }

  refused : (f : Fault) → progress ≡ stop f → RefusedWith (vm_error_numbered (refusal_of f)) x.stack ran
  refused f q = rw q (record { numbered = refl; stack = refl })

  success : gas_of t ≤ g → p_of t ≤ 4096 → SucceedsWith t v x.state.used x.stack ran
  success a b =
      let d : g - (g - gas_of t) ≡ gas_of t = omega arith in
      rw (succeeds t v e x.caller (length x.storage) g used a b, used_kept, d) (record { numbered = refl; stack = refl })

  gas : g < gas_of t → p_of t ≤ 4096 → (i : ℕ) × FirstUnpaid (operations_of t) g i × RefusedWith (out_of_gas_at t g i) x.stack ran
  gas a b =
      let w = less_gas t v e x.caller (length x.storage) g used a b in
      (w.0, w.1, refused (refused_at t g w.0) w.2)

  full : gas_of t ≤ g → 4096 < p_of t → RefusedWith stack_full x.stack ran
  full a b = refused stack_limit_exceeded (less_room t v e x.caller (length x.storage) g used a b)

  abbrev First : Type 0
  First = (i : ℕ) × (j : ℕ) × FirstUnpaid (operations_of t) g i × FirstFull (operations_of t) j
      × (i ≤ j → RefusedWith (out_of_gas_at t g i) x.stack ran) × (j < i → RefusedWith stack_full x.stack ran)

  first : g < gas_of t → 4096 < p_of t → First
  first a b =
      let w = less_both t v e x.caller (length x.storage) g used a b in
      (w.0, w.1, w.2, w.3, λ q. refused (refused_at t g w.0) (w.4 q), λ q. refused stack_limit_exceeded (w.5 q))

  -- success exactly then
  not_both : {A : Type 0} (f : Numbered) → ran.numbered.number ≡ 0 → 0 < f.number → RefusedWith f x.stack ran → A
  not_both f n z r = absurd (omega (arith, ap (λ (y : Numbered). y.number) r.numbered))

  exact : (ran.numbered.number ≡ 0) ↔ ((gas_of t ≤ g) × (p_of t ≤ 4096))
  exact = (λ n. go n (dec_lt g (gas_of t)) (dec_lt 4096 (p_of t)), λ a. ap (λ (y : Numbered). y.number) (success a.0 a.1).numbered)
    where
      go : ran.numbered.number ≡ 0 → Dec (g < gas_of t) → Dec (4096 < p_of t) → (gas_of t ≤ g) × (p_of t ≤ 4096)
      go n (no a) (no b) = (omega arith, omega arith)
      go n (yes a) (no b) = let w = gas a (omega arith) in not_both (out_of_gas_at t g w.0) n (omega arith) w.2
      go n (no a) (yes b) = not_both stack_full n (omega arith) (full (omega arith) b)
      go n (yes a) (yes b) = let w = first a b in which w (dec_lt w.1 w.0)
        where
          which : (w : First) → Dec (w.1 < w.0) → (gas_of t ≤ g) × (p_of t ≤ 4096)
          which w (yes z) = not_both stack_full n (omega arith) (w.5 z)
          which w (no z) = not_both (out_of_gas_at t g w.0) n (omega arith) (w.4 (omega arith))

  pub compiled : TreeRun t v g x.state.used x.stack x.storage ran
  compiled = record {
    storage = kept.storage;
    after = kept.after;
    work = kept.work;
    exact = exact;
    success = success;
    gas = gas;
    full = full;
    first = first;
  }
