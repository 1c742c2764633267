-- Laws of what a state leads to.
use Rattle.std.specs.Prelude.{Option, Result, Ok, Err}
use Rattle.scope.specs.declared.state.Returned.{Returned}
use Rattle.std.specs.Option.{unwrap_or}
use Prim.Native.Nat.{ℕ, ◌≤◌}
use mathlib.Core.Path.{◌≡◌, refl, sym, ap, subst, ◌∙◌}
use mathlib.Core.List.{List, ◌∷◌}
use native.Mathlib.Omega.{arith}
use borrow.Author.Tests.{lt-ltb, le-ltb}
use lib.ListN.{length, take}
use Rattle.base.proofs.Tests.{by_leb}
use Rattle.base.specs.declared.span.Span.{Span}
use Rattle.figures.specs.declared.Figures.{Figures}
use Rattle.grammar.specs.Tree.{Tree}
use Rattle.grammar.specs.Parse.{Env}
use Rattle.figures.specs.Code.Figures.{FiguresOf}
use Rattle.scope.specs.declared.refusal.AssembleError.{AssembleError}
use Rattle.scope.specs.declared.state.TableState as Code
use Rattle.scope.specs.Part.{part}
use Rattle.scope.specs.Scope.{Scope, bound}
use Rattle.numbered.specs.declared.Numbered.{Numbered}
use Rattle.base.specs.Outcome.{Outcome, is, refused}
use Rattle.scope.specs.Numbers.{assemble_error_numbered}
use Rattle.scope.specs.Code.Stored.{More, Binds}
use Rattle.scope.specs.Code.Held.{LastIs, Represents, SimulatesBy, Simulates, SimulatesStep, SimulatesTo}
use Rattle.scope.proofs.Stored.{full_more, row_more}
use Rattle.scope.proofs.Tables.{holds_length, holds_later, holds_more}
use Rattle.scope.proofs.Sources.{env_later, stand_later, last_later, Gives, env_more, stand_more, last_more}

module _ {s : List ℕ} {a : Code.TableState} {x : Result (Unit {0}) AssembleError} {whole : Outcome Numbered Scope} {rest : Scope → Outcome Numbered Scope} where
  pub leads_on : {st : Scope} → x ≡ Ok tt → Represents s a st → whole ≡ rest st → Simulates s a x whole rest
  leads_on {st} o r e = record { by = subst (λ (y : Result (Unit {0}) AssembleError). SimulatesBy y s a whole rest) (sym o) (st, (r, e)) }

  pub leads_off : {why : AssembleError} → x ≡ Err why → whole ≡ refused (assemble_error_numbered why) → Simulates s a x whole rest
  leads_off o e = record { by = subst (λ (y : Result (Unit {0}) AssembleError). SimulatesBy y s a whole rest) (sym o) e }

  pub by_leads : {P : Type 0} → Simulates s a x whole rest
      → ((st : Scope) → x ≡ Ok tt → Represents s a st → whole ≡ rest st → P)
      → ((why : AssembleError) → x ≡ Err why → whole ≡ refused (assemble_error_numbered why) → P)
      → P
  by_leads {P} l on off = go x refl l.by
    where
      go : (y : Result (Unit {0}) AssembleError) → x ≡ y → SimulatesBy y s a whole rest → P
      go (Ok u) o h = on h.0 o h.1.0 h.1.1
      go (Err why) o h = off why o h

-- a step, by its answer
module _ {s t : List ℕ} {a : Code.TableState} {f : Scope → Outcome Numbered Scope} {x : Result Code.TableState AssembleError} (g : SimulatesTo s a f t x) where
  pub simulates_ok : {r : Code.TableState} → x ≡ Ok r → SimulatesStep s a f t r (Ok tt)
  simulates_ok e = subst (SimulatesTo s a f t) e g

  pub simulates_err : {why : AssembleError} → x ≡ Err why → SimulatesStep s a f t a (Err why)
  simulates_err e = subst (SimulatesTo s a f t) e g

module _ (s : List ℕ) (i e : ℕ) (h : i ≤ e) (k : e ≤ length s) where
  pub represents_later : {a : Code.TableState} {st : Scope} → Represents (take i s) a st → Represents (take e s) a st
  represents_later {a} {st} r = record {
    full = r.full;
    holds = holds_later s i e h k r.holds;
    stand = stand_later s i e h k r.stand;
    sources = r.sources ∙ env_later s i e h k r.stand;
    last = last_later s i e h k a st.last r.stand r.last;
  }

  pub leads_later : {a : Code.TableState} {x : Result (Unit {0}) AssembleError} {whole : Outcome Numbered Scope} {rest : Scope → Outcome Numbered Scope} → Simulates (take i s) a x whole rest → Simulates (take e s) a x whole rest
  leads_later l = by_leads l (λ st o r w. leads_on o (represents_later r) w) (λ why o w. leads_off o w)

-- one binding more
module _ (s : List ℕ) (a r : Code.TableState) (name expr : Span) (v : Figures) {w : List ℕ} {x : Result (Unit {0}) AssembleError} (b : Binds a name expr v w r x) (o : name.start ≤ name.end) (k : name.end ≤ length s) (same : w ≡ part s name.start name.end) where
  pub bound_leads : {st : Scope} {t : Tree} → Represents s a st → FiguresOf t v → Gives s st.env expr (unwrap_or v.value 0) t → Simulates s r x (bound st (part s name.start name.end) t) is
  bound_leads {st} {t} q f g =
      let n = holds_length q.holds in
      by_leb 256 a.table.count
      (λ l. leads_off (b.full l).0 (let e = le-ltb (length st.env) 256 (omega arith) in rw e))
      (λ l.
      let y = (b.more l).1 in
      let m : More a name expr v w r = rw y (row_more q.full l refl) in
      let e = lt-ltb (length st.env) 256 (omega arith) in
      let u = subst (λ (env : Env). Gives s env expr (unwrap_or v.value 0) t) q.sources g in
      leads_on (b.more l).0
      (record {
        full = rw y (full_more q.full _);
        holds = holds_more s m o k same f l q.holds;
        stand = stand_more s m u o k same q.stand;
        sources = ap (λ (env : Env). record { name = part s name.start name.end; tree = t } ∷ env) q.sources ∙ sym (env_more s m u);
        last = subst (λ (x : Option Returned). LastIs s r.table r.values x st.last) (sym m.last) (last_more s m a.last st.last q.last);
      })
      (rw e))
