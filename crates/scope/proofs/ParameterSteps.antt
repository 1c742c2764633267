-- Laws of the parameters: what one makes of a state, the one at a place, and those that follow it.
use Rattle.std.specs.Prelude.{Option, Some, None, Result, Ok, Err}
use Rattle.std.specs.Option.{unwrap_or}
use Prim.Native.Nat.{ℕ, ◌-◌, ◌≤◌}
use mathlib.Core.Path.{◌≡◌, refl, sym, ap, subst, ◌∙◌}
use mathlib.Core.List.{List, [], ◌∷◌}
use native.Mathlib.Omega.{arith}
use lib.ListN.{length, take, drop}
use lib.Seq.{length-take-le}
use Rattle.base.proofs.Parts.{take-drop_slice}
use Rattle.source.specs.declared.parameters.Parameter.{Parameter}
use Rattle.source.specs.Parameters.{parameters}
use Rattle.source.specs.Vector.{vector_number}
use Rattle.source.specs.Code.Cursor.{parameter_at}
use Rattle.source.proofs.Cursor.{next_is, next_done}
use Rattle.figures.specs.declared.Figures.{Figures}
use Rattle.grammar.specs.Tree.{num}
use Rattle.grammar.specs.Parse.{Env}
use Rattle.figures.specs.Code.Figures.{FiguresOf}
use Rattle.scope.specs.declared.refusal.AssembleError.{AssembleError}
use Rattle.scope.specs.declared.state.TableState as Code
use Rattle.scope.specs.Part.{part}
use Rattle.scope.specs.Scope.{Scope, bound}
use Rattle.numbered.specs.declared.Numbered.{Numbered}
use Rattle.base.specs.Outcome.{Outcome, is, and_then}
use Rattle.scope.specs.Parameters.{keyed, parameter_bound}
use Rattle.scope.specs.Code.Stored.{Binds}
use Rattle.scope.specs.Code.Held.{Simulates, SimulatesStep, Within, keyed_as}
use Rattle.scope.proofs.Tables.{part_take}
use Rattle.scope.proofs.Sources.{Gives}
use Rattle.scope.proofs.Simulation.{leads_off, represents_later, bound_leads}
use Rattle.scope.proofs.Loops.{Item, item_within}

-- a parameter has no expression, and is the number of its value
literal_gives : {s : List ℕ} {env : Env} {end n : ℕ} → end ≤ length s → (x : Option ℕ) → x ≡ Some n → Gives s env (record { start = end; end = end }) (unwrap_or x 0) (num n)
literal_gives l (Some m) e = record { ordered = omega arith; inside = l; number = λ z. cc; means = λ z. absurd (omega arith) }
literal_gives l None e = absurd (let z : ◌≡◌ {A = ℕ} 0 1 = cc in omega arith)

abbrev bound_to : Scope → List ℕ → Outcome Numbered ℕ → Outcome Numbered Scope
bound_to st name k = and_then k (λ n. bound st name (num n))

-- the parameter from start to end of the contract, with a place
module _ (s vector : List ℕ) (a : Code.TableState) (start end : ℕ) (w : Within s start end) (place : ℕ) (x : Result ℕ AssembleError) (e : keyed_as x ≡ keyed (vector_number vector (part s start end)) place) where
  abbrev one : Scope → Outcome Numbered Scope
  one st = parameter_bound vector place st (part s start end)

  pub parameter_refused : {why : AssembleError} → x ≡ Err why → {left : Code.TableState} → SimulatesStep (take start s) a one (take end s) left (Err why)
  parameter_refused q = record { leads = λ st r. leads_off refl (ap (bound_to st (part s start end)) (sym (sym (ap keyed_as q) ∙ e))) }

  pub parameter_bound_lem : {n : ℕ} → x ≡ Ok n → {v : Figures} → FiguresOf (num n) v → {r : Code.TableState} {y : Result (Unit {0}) AssembleError} → Binds a (record { start = start; end = end }) (record { start = end; end = end }) v (part s start end) r y → SimulatesStep (take start s) a one (take end s) r y
  parameter_bound_lem {n} q {v} f {r} {y = answer} b = record {
    leads = λ st p.
        let l = length-take-le end s w.inside in
        let y = part_take s end end (omega arith) w.inside start (end - start) (let o = w.ordered in omega arith) in
        let z = ap (bound_to st (part s start end)) (sym (sym (ap keyed_as q) ∙ e)) in
        subst (λ (u : Outcome Numbered Scope). Simulates (take end s) r answer u is) (ap (λ (u : List ℕ). bound_to st u (keyed_as (Ok n))) y ∙ sym z)
        (bound_leads (take end s) a r (record { start = start; end = end }) (record { start = end; end = end }) v b w.ordered (omega arith) (sym y) (represents_later s start end w.ordered w.inside p) f (literal_gives (omega arith) v.value f.value));
  }

-- the parameters from a place on, of the text before another
abbrev pub names_from : List ℕ → ℕ → ℕ → List (List ℕ)
names_from s end at = parameters (drop at (take end s))

-- what the iterator over the text before `end` gives
pub given : (s : List ℕ) (end at : ℕ) {text : List ℕ} {r : Option Parameter} → text ≡ take end s → parameter_at text at ≡ r → parameter_at (take end s) at ≡ r
given s end at t e = ap (λ (u : List ℕ). parameter_at u at) (sym t) ∙ e

module _ (s : List ℕ) (start end : ℕ) (w : Within s start end) where
  pub all_names : parameters (part s start end) ≡ names_from s end start
  all_names = ap parameters (take-drop_slice s start end w.ordered w.inside)

  pub names_done : (at : ℕ) → parameter_at (take end s) at ≡ None → names_from s end at ≡ []
  names_done at e = next_done (take end s) at e

  pub name_item : (at : ℕ) (p : Parameter) → parameter_at (take end s) at ≡ Some p → Item s (names_from s end) end at p.name.start p.name.end p.next
  name_item at p e =
      let i = next_is (take end s) at p e in
      let n = length-take-le end s w.inside in
      record {
        low = i.starts;
        ordered = omega (arith, i.filled);
        before = i.before;
        on = i.on;
        high = omega (arith, i.fits);
        is = i.is ∙ ap (λ (t : List ℕ). t ∷ names_from s end p.next) (part_take s end end (omega arith) w.inside p.name.start (p.name.end - p.name.start) (omega (arith, i.filled, i.before, i.fits)));
      }

  pub name_within : (at : ℕ) (p : Parameter) → parameter_at (take end s) at ≡ Some p → Within s p.name.start p.name.end
  name_within at p e = item_within w (name_item at p e)
