-- Laws of a loop over texts that stand in the contract, one after the other.
use Prim.Native.Nat.{ℕ, ◌+◌, ◌<◌, ◌≤◌}
use mathlib.Core.Path.{◌≡◌, refl, ap, ◌∙◌}
use mathlib.Core.List.{List, [], ◌∷◌}
use native.Mathlib.Omega.{arith}
use lib.ListN.{take}
use Rattle.std.specs.Prelude.{Result, Ok, Err}
use Rattle.scope.specs.declared.refusal.AssembleError.{AssembleError}
use Rattle.scope.specs.declared.state.TableState as Code
use Rattle.scope.specs.Part.{part}
use Rattle.scope.specs.Scope.{Scope, each}
use Rattle.numbered.specs.declared.Numbered.{Numbered}
use Rattle.base.specs.Outcome.{Outcome, refused, and_then}
use Rattle.scope.specs.Numbers.{assemble_error_numbered}
use Rattle.scope.specs.Code.Held.{Represents, Represented, Simulates, SimulatesStep, Within}
use Rattle.scope.proofs.Simulation.{leads_on, leads_off, by_leads, represents_later}

-- The texts from a place on are `items`; all of them stand from start to end. Those before the place `at` were passed, from the state first on, and
-- the next has the number n.
pub record Turn (s : List ℕ) (one : ℕ → Scope → List ℕ → Outcome Numbered Scope) (items : ℕ → List (List ℕ)) (all : List (List ℕ)) (start end : ℕ) (first : Code.TableState) (at n : ℕ) (a : Code.TableState) : Type 0 where
  pub low : start ≤ at
  pub high : at ≤ end
  pub counted : n + start ≤ at + 1
  pub leads : (st : Scope) → Represents (take start s) first st → (x : Scope) × (Represents (take at s) a x × (each one 1 st all ≡ each one n x (items at)))

-- the text at a place stands from i to e, and the others from next on
pub record Item (s : List ℕ) (items : ℕ → List (List ℕ)) (end at i e next : ℕ) : Type 0 where
  pub low : at ≤ i
  pub ordered : i ≤ e
  pub before : e ≤ next
  pub on : at < next
  pub high : next ≤ end
  pub is : items at ≡ part s i e ∷ items next

pub turn_first : (s : List ℕ) (one : ℕ → Scope → List ℕ → Outcome Numbered Scope) (items : ℕ → List (List ℕ)) (all : List (List ℕ)) (start end : ℕ) (first : Code.TableState)
    → Within s start end → all ≡ items start → Turn s one items all start end first start 1 first
turn_first s one items all start end first w f = record { low = omega arith; high = w.ordered; counted = omega arith; leads = λ st q. (st, (q, ap (each one 1 st) f)) }

module _ {s : List ℕ} {start end : ℕ} (w : Within s start end) where
  pub item_within : {items : ℕ → List (List ℕ)} {at i e next : ℕ} → Item s items end at i e next → Within s i e
  item_within x = record { short = w.short; ordered = x.ordered; fits = omega (arith, x.before, x.high, w.fits); inside = omega (arith, x.before, x.high, w.inside) }

  module _ {one : ℕ → Scope → List ℕ → Outcome Numbered Scope} {items : ℕ → List (List ℕ)} {all : List (List ℕ)} {first : Code.TableState} {at n : ℕ} {a : Code.TableState}
      (t : Turn s one items all start end first at n a) where
    pub turn_represents : Represented (take start s) first → Represented (take at s) a
    turn_represents g = let x = t.leads g.st g.represents in record { st = x.0; represents = x.1.0 }

    pub turn_done : items at ≡ [] → SimulatesStep (take start s) first (λ st. each one 1 st all) (take end s) a (Ok tt)
    unfolding each
    turn_done e = record {
      leads = λ st q.
          let x = t.leads st q in
          leads_on refl (represents_later s at end t.high w.inside x.1.0) (x.1.1 ∙ ap (each one n x.0) e);
    }

    module _ {i e next : ℕ} (y : Item s items end at i e next) {r : Code.TableState} {x : Result (Unit {0}) AssembleError} (g : SimulatesStep (take i s) a (λ st. one n st (part s i e)) (take e s) r x) where
      onward : (st : Scope) → Represents (take start s) first st → Simulates (take next s) r x (each one 1 st all) (λ z. each one (n + 1) z (items next))
      unfolding each
      onward st q =
          let z = t.leads st q in
          let m = z.1.1 ∙ ap (each one n z.0) y.is in
          let k = item_within y in
          by_leads (g.leads z.0 (represents_later s at i y.low (omega (arith, k.ordered, k.inside)) z.1.0))
          (λ v o u d. leads_on o (represents_later s e next y.before (omega (arith, y.high, w.inside)) u) (m ∙ ap (λ (o : Outcome Numbered Scope). and_then o (λ v. each one (n + 1) v (items next))) d))
          (λ why o d. leads_off o (m ∙ ap (λ (o : Outcome Numbered Scope). and_then o (λ v. each one (n + 1) v (items next))) d))

      pub turn_next : x ≡ Ok tt → Turn s one items all start end first next (n + 1) r
      turn_next b = record {
        low = omega (arith, y.on, t.low);
        high = y.high;
        counted = omega (arith, y.on, t.counted);
        leads = λ st q. by_leads (onward st q) (λ z o u d. (z, (u, d))) (λ why o d. cc);
      }

      -- nothing is said of the state that is left
      pub turn_off : {why : AssembleError} → x ≡ Err why → {left : Code.TableState} → SimulatesStep (take start s) first (λ st. each one 1 st all) (take end s) left (Err why)
      turn_off {why} b = record {
        leads = λ st q. by_leads (onward st q) (λ z o u d. cc) (λ other o d. let same : other ≡ why = cc in leads_off refl (d ∙ ap (λ (u : AssembleError). refused (assemble_error_numbered u)) same));
      }
