-- An arm of `step_of`: what the operation's own function leaves, carried to the whole step.
use Prim.Native.Nat.{ℕ, ◌+◌, ◌≤◌, ◌<◌, ◌^◌}
use native.Mathlib.Omega.{arith}
use mathlib.Core.Path.{◌≡◌, ap, ◌∙◌}
use mathlib.Core.List.{List}
use mathlib.Core.Logic.{◌⊎◌, inl, inr}
use lib.ListN.{length}
use borrow.Author.Tests.{lt-ltb, le-ltb}
use Rattle.machine.specs.declared.Regs.{Regs}
use Rattle.machine.specs.declared.Refusal.TheVariants.{OutOfGas}
use Rattle.kinds.specs.Kinds.{Operation, operation, kind_of}
use Rattle.kinds.proofs.ByKind.{unpriced}
use Rattle.machine.specs.Machine.{effect_of}
use Rattle.machine.proofs.Program.{effect_high}
use Rattle.machine.specs.Code.Registers.{Bounds, CanStep, Running, KeepsBounds, RefinesEffect, RefinesStep, over_of, paid, ended, stopped}

-- the registers after the payment are ready for the operation
pub ready : (price : ℕ) {n room : ℕ} {r p : Regs} → p ≡ paid r price → Running r n room → r.pos < 2 ^ 63 → CanStep p n
ready price e h k = rw e (omega arith)

held_by : (room lo price : ℕ) (r q : Regs) → Bounds room r → over_of r.status ≡ 0 → price ≤ r.gas → 1 ≤ price → (r.pos + 1 ≤ lo) ⊎ (2 ≤ price)
    → KeepsBounds lo room (paid r price) q → Bounds room q
held_by room lo price r q h z le one (inl a) k = omega arith
held_by room lo price r q h z le one (inr a) k = omega arith

-- an operation that is no Halt: it goes on to the next place or further, or its price is at least 2
pub arm : (k lo price caller kind v : ℕ) {n : ℕ} {r p q : Regs} {s w s' w' : List ℕ} → kind ≡ k → p ≡ paid r price → price ≡ (kind_of kind).price → price ≤ r.gas
    → 1 ≤ (kind_of k).price → (p.pos + 1 ≤ lo) ⊎ (2 ≤ (kind_of k).price) → Running r n (length w)
    → RefinesEffect lo (effect_of caller (length w) (operation k v)) p q s w s' w' → RefinesStep caller (operation kind v) r q s w s' w'
arm k lo price caller kind v {r = r} {p = p} {q = q} {w = w} e pe c le one side run did =
    let c' : price ≡ (kind_of k).price = c ∙ ap (λ (j : ℕ). (kind_of j).price) e in
    let side' : (r.pos + 1 ≤ lo) ⊎ (2 ≤ price) = rw c' (rw pe at side) in
    let kept : KeepsBounds lo (length w) (paid r price) q = rw pe at did.kept in
    record {
      progress = rw (e, ← c', le-ltb r.gas price le) (rw pe at did.progress);
      held = held_by (length w) lo price r q run.held run.status le (rw c' one) side' kept;
      gas = omega arith;
      falls = omega (arith, rw (← c') at one);
    }

pub out_of_gas_lem : {caller price n : ℕ} {op : Operation} {r q : Regs} {s w : List ℕ} → q ≡ stopped r (OutOfGas price r.gas) → price ≡ (kind_of op.kind).price → r.gas < price
    → Running r n (length w) → RefinesStep caller op r q s w s w
out_of_gas_lem {price = price} {r = r} e c lt run = rw e (record { progress = rw (← c, lt-ltb r.gas price lt); held = omega arith; gas = omega arith; falls = omega arith })

pub ends_by : (kind v : ℕ) {caller price n : ℕ} {r p q : Regs} {s w : List ℕ} → 15 ≤ kind → q ≡ ended p (p.ops + 1) → p ≡ paid r price → price ≡ (kind_of kind).price → price ≤ r.gas
    → Running r n (length w) → RefinesStep caller (operation kind v) r q s w s w
ends_by kind v {caller = caller} {price = price} {r = r} {w = w} h e pe c le run =
    let c' : price ≡ 0 = c ∙ unpriced kind h in
    rw (e, pe) (record { progress = rw (effect_high caller (length w) kind v h, unpriced kind h, c', le-ltb r.gas 0 (omega arith)); held = omega arith; gas = omega arith; falls = omega arith })

-- a leaf of `step`
pub at_kind : (k kind v : ℕ) {caller : ℕ} {r q : Regs} {s w s' w' : List ℕ} → kind ≡ k → RefinesStep caller (operation k v) r q s w s' w' → RefinesStep caller (operation kind v) r q s w s' w'
at_kind k kind v e d = rw e d

pub at_halt : (kind v : ℕ) {caller : ℕ} {r q : Regs} {s w s' w' : List ℕ} → 15 ≤ kind → RefinesStep caller (operation 15 v) r q s w s' w' → RefinesStep caller (operation kind v) r q s w s' w'
at_halt kind v {caller = caller} {w = w} h d = record { progress = rw (effect_high caller (length w) kind v h, unpriced kind h) d.progress; held = d.held; gas = d.gas; falls = d.falls }
