-- Where the run of a tree's program ends: with success, out of gas, or with the stack full.
use Rattle.std.specs.Prelude.{Some}
use Prim.Native.Nat.{ℕ, ◌+◌, ◌-◌, ◌≤◌, ◌<◌}
use native.Mathlib.Omega.{arith}
use native.Mathlib.Decide.{dec_lt}
use mathlib.Core.Path.{◌≡◌}
use mathlib.Core.List.{List}
use lib.ListN.{take}
use Rattle.kinds.specs.Kinds.{Operation}
use Rattle.machine.specs.Machine.{Fault, out_of_gas, stack_limit_exceeded, done, stop, run_to_end}
use Rattle.grammar.specs.Tree.{Tree, value_of, p_of}
use Rattle.contract.specs.Output.{operations_of}
use Rattle.correctness.specs.Counting.{price, cost, op_at, cost_before, FirstUnpaid, PushWhenFull, FirstFull}
use Rattle.correctness.specs.Statement.{gas_of}
use Rattle.correctness.proofs.Trees.{last, decided, program_cost, program_sound, program_peak}
use Rattle.correctness.proofs.Trace.{MeetsFrom, trace_fine, trace_short, trace_full, none_meets, first_full, first_short, short_paid, all_paid}

-- out of gas at operation i
abbrev pub refused_at : Tree → ℕ → ℕ → Fault
refused_at t g i = out_of_gas (price (op_at (operations_of t) i)) (g - cost_before (operations_of t) i)

-- the two ways to say that a push meets 4,096 items
to_from : (l : List Operation) (j : ℕ) → PushWhenFull l j → MeetsFrom 0 l j
to_from l j m = (m.0, m.1, omega (arith, m.2))

from_to : (l : List Operation) (j : ℕ) → MeetsFrom 0 l j → PushWhenFull l j
from_to l j m = (m.0, m.1, omega (arith, m.2))

-- where p and the gas say so there is such a place, and else there is none
fills : (t : Tree) → 4096 < p_of t → (j : ℕ) × FirstFull (operations_of t) j
fills t h =
    let w = first_full (operations_of t) 0 (program_sound t) (omega arith) (omega (arith, program_peak t)) in
    (w.0, record { meets = from_to (operations_of t) w.0 w.1; first = λ i a m. w.2 i a (to_from (operations_of t) i m) })

none_fills : (t : Tree) → p_of t ≤ 4096 → (j : ℕ) → ¬ (PushWhenFull (operations_of t) j)
none_fills t h j m = none_meets (operations_of t) 0 (program_sound t) (omega (arith, program_peak t)) j (to_from (operations_of t) j m)

shorts : (t : Tree) (g : ℕ) → g < gas_of t → (i : ℕ) × FirstUnpaid (operations_of t) g i
shorts t g h = first_short (operations_of t) g (omega (arith, program_cost t))

none_shorts : (t : Tree) (g : ℕ) → gas_of t ≤ g → (i : ℕ) → ¬ (FirstUnpaid (operations_of t) g i)
none_shorts t g h i s = omega (arith, program_cost t, all_paid (operations_of t) i s.within, s.short)

module _ (t : Tree) (v : ℕ) (e : value_of t ≡ Some v) (c room g : ℕ) (m : List ℕ) where
  pub succeeds : gas_of t ≤ g → p_of t ≤ 4096 → run_to_end (operations_of t) c room g m ≡ done (g - gas_of t) (last t v m)
  succeeds a b =
      let d : g - cost (operations_of t) ≡ g - gas_of t = omega (arith, program_cost t) in
      rw (decided t v e c room g m, trace_fine (operations_of t) g 0 (omega arith) (omega (arith, program_cost t)) (omega (arith, program_peak t)), d)

  -- by index
  short_at : (i : ℕ) → FirstUnpaid (operations_of t) g i → ((j : ℕ) → FirstFull (operations_of t) j → i ≤ j) → run_to_end (operations_of t) c room g m ≡ stop (refused_at t g i)
  short_at i s h =
      rw (decided t v e c room g m, trace_short (operations_of t) g 0 i (program_sound t) (omega arith) s.within (short_paid (operations_of t) g i s) s.short (λ j a m. clash j a m (dec_lt 4096 (p_of t))))
    where
      clash : (j : ℕ) → j < i → MeetsFrom 0 (operations_of t) j → Dec (4096 < p_of t) → ⊥
      clash j a m (yes q) = let w = fills t q in before w.0 w.1 (h w.0 w.1) (dec_lt j w.0)
        where
          before : (j₀ : ℕ) → FirstFull (operations_of t) j₀ → i ≤ j₀ → Dec (j < j₀) → ⊥
          before j₀ f le (yes z) = f.first j z (from_to (operations_of t) j m)
          before j₀ f le (no z) = omega arith
      clash j a m (no q) = none_fills t (omega arith) j (from_to (operations_of t) j m)

  full_at_lem : (j : ℕ) → FirstFull (operations_of t) j → ((i : ℕ) → FirstUnpaid (operations_of t) g i → j < i) → run_to_end (operations_of t) c room g m ≡ stop stack_limit_exceeded
  full_at_lem j f h =
      rw (decided t v e c room g m, trace_full (operations_of t) g 0 j (program_sound t) (omega arith) (to_from (operations_of t) j f.meets) (λ i a m. f.first i a (from_to (operations_of t) i m)) (paid (dec_lt g (gas_of t))))
    where
      paid : Dec (g < gas_of t) → cost (take j (operations_of t)) + price (op_at (operations_of t) j) ≤ g
      paid (yes q) = let w = shorts t g q in w.1.paid j (h w.0 w.1)
      paid (no q) = omega (arith, program_cost t, all_paid (operations_of t) j f.meets.0)

  -- by k and p
  abbrev AtGas : ℕ → Type 0
  AtGas i = run_to_end (operations_of t) c room g m ≡ stop (refused_at t g i)

  abbrev AtRoom : Type 0
  AtRoom = run_to_end (operations_of t) c room g m ≡ stop stack_limit_exceeded

  pub less_gas : g < gas_of t → p_of t ≤ 4096 → (i : ℕ) × FirstUnpaid (operations_of t) g i × AtGas i
  less_gas a b = let w = shorts t g a in (w.0, w.1, short_at w.0 w.1 (λ j f. absurd (none_fills t b j f.meets)))

  pub less_room : gas_of t ≤ g → 4096 < p_of t → AtRoom
  less_room a b = let w = fills t b in full_at_lem w.0 w.1 (λ i s. absurd (none_shorts t g a i s))

  pub less_both : g < gas_of t → 4096 < p_of t → (i : ℕ) × (j : ℕ) × FirstUnpaid (operations_of t) g i × FirstFull (operations_of t) j × (i ≤ j → AtGas i) × (j < i → AtRoom)
  less_both a b =
      let w = shorts t g a in
      let u = fills t b in (
        w.0,
        u.0,
        w.1,
        u.1,
        λ h. short_at w.0 w.1 (λ j f. later_full w.0 u.0 j h u.1 f (dec_lt j u.0)),
        λ h. full_at_lem u.0 u.1 (λ i s. later_short u.0 w.0 i h w.1 s (dec_lt i w.0)),
      )
    where
      later_full : (i j₀ j : ℕ) → i ≤ j₀ → FirstFull (operations_of t) j₀ → FirstFull (operations_of t) j → Dec (j < j₀) → i ≤ j
      later_full i j₀ j h f f' (yes z) = absurd (f.first j z f'.meets)
      later_full i j₀ j h f f' (no z) = omega arith

      later_short : (j i₀ i : ℕ) → j < i₀ → FirstUnpaid (operations_of t) g i₀ → FirstUnpaid (operations_of t) g i → Dec (i < i₀) → j < i
      later_short j i₀ i h s s' (yes z) = absurd (omega (arith, s.paid i z, s'.short))
      later_short j i₀ i h s s' (no z) = omega arith
