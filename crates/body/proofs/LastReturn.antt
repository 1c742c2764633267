-- Laws of the last return's place: line by line, from the parameters on.
use Rattle.std.specs.Prelude.{Option, Some, None, Result, Ok, Err}
use Rattle.scope.specs.declared.refusal.AssembleError.{AssembleError}
use Rattle.scope.specs.declared.state.Returned.{Returned}
use Prim.Native.Nat.{ℕ, ◌+◌}
use mathlib.Core.Path.{◌≡◌, refl, sym, ap, subst, ◌∙◌}
use mathlib.Core.List.{List, [], ◌∷◌}
use mathlib.Core.Bool.{Bool, true, false}
use native.Mathlib.Omega.{arith}
use lib.Dec.{ltb}
use lib.ListN.{length, take}
use Rattle.base.specs.Need.{need}
use Rattle.base.proofs.Outcome.{not_is}
use Rattle.base.proofs.Tests.{by_leb}
use Rattle.lines.specs.declared.Line.{Line}
use Rattle.lines.specs.Cursor.{line_from, line_at}
use Rattle.lines.proofs.Cursor.{step_line}
use Rattle.numbered.specs.declared.Numbered.{Numbered}
use Rattle.numbered.specs.Numbered.{plain}
use Rattle.base.specs.declared.span.Span.{Span}
use Rattle.source.specs.Vector.{vector_number}
use Rattle.bindings.specs.declared.Bindings.{Bindings}
use Rattle.bindings.specs.declared.Values.{Values}
use Rattle.figures.specs.declared.Figures.{Figures}
use Rattle.grammar.specs.Tree.{Tree, num}
use Rattle.body.specs.declared.statement.StatementSpans.TheVariants.{Skipped, Let, Return}
use Rattle.scope.specs.declared.state.TableState as Code
use Rattle.scope.specs.Scope.{Scope, bound, each}
use Rattle.base.specs.Outcome.{Outcome, is, refused, and_then}
use Rattle.scope.specs.Parameters.{keyed, parameter_bound}
use Rattle.body.specs.Code.Places.{statement_at}
use Rattle.scope.specs.Code.Stored.{returning, Binds}
use Rattle.body.specs.Code.LastReturn.{Met, meeting, lines_met, body_met, place_of, met_of, ReadToLast, MeetsLine, ReadsBody}
use Rattle.scope.specs.Code.Held.{LastIs, Within}
use Rattle.body.proofs.BodyLines.{lines_from, all_lines, line_item}

-- the lines before `at` were met, from the state first on
pub record Meeting (s : List ℕ) (start end : ℕ) (first : Code.TableState) (at : ℕ) (a : Code.TableState) : Type 0 where
  pub is : body_met s start end (met_of first) ≡ lines_met s end (met_of a) at (lines_from s end at)

line_is : (b : Bool) (x l : Line) → ◌≡◌ {A = (Option Line)} (elim b [ true ↦ Some x | false ↦ None ]) (Some l) → x ≡ l
line_is true x l e = cc
line_is false x l e = absurd (let z : ◌≡◌ {A = ℕ} 0 1 = cc in omega arith)

module _ {s : List ℕ} {start end : ℕ} (w : Within s start end) {first : Code.TableState} where
  pub met_first : Meeting s start end first start first
  met_first = record { is = ap (lines_met s end (met_of first) start) (all_lines s start end w) }

  module _ {at : ℕ} {a : Code.TableState} (m : Meeting s start end first at a) where
    pub met_done : lines_from s end at ≡ [] → ReadsBody s start end first (Ok a)
    unfolding lines_met
    met_done e = record { is = sym (m.is ∙ ap (lines_met s end (met_of a) at) e) }

    pub met_next : {l : Line} {r : Code.TableState} {x : Result (Unit {0}) AssembleError} → line_at (take end s) at ≡ Some l → MeetsLine s l.text.start l.text.end a r x → x ≡ Ok tt → Meeting s start end first l.next r
    unfolding lines_met
    met_next {l} {r} e f g = record {
      is = m.is
          ∙ ap (lines_met s end (met_of a) at) (line_item s start end w at l e).is
          ∙ ap (λ (x : Line). lines_met s end (meeting s (met_of a) (statement_at s at x.text.end)) x.next (lines_from s end l.next)) (line_is (ltb at (length (take end s))) (line_from (take end s) at) l e)
          ∙ ap (λ (x : Met). lines_met s end x l.next (lines_from s end l.next)) (sym (f.is g ∙ ap (λ (k : ℕ). meeting s (met_of a) (statement_at s k l.text.end)) (step_line (take end s) at l e).starts));
    }

pub met_off : {s : List ℕ} {start end : ℕ} {first : Code.TableState} {x : Result Code.TableState AssembleError} {why : AssembleError} → x ≡ Err why → ReadsBody s start end first x
met_off {s} {start} {end} {first} b = subst (ReadsBody s start end first) (sym b) (record { is = tt })

-- one line
module _ {s : List ℕ} {start end : ℕ} {a : Code.TableState} where
  pub meets_refused : {why : AssembleError} {left : Code.TableState} → MeetsLine s start end a left (Err why)
  meets_refused = record { is = λ g. cc }

  pub meets_skipped : Skipped ≡ statement_at s start end → MeetsLine s start end a a (Ok tt)
  meets_skipped f = record { is = λ g. ap (meeting s (met_of a)) f }

  pub meets-let : {name expr : Span} {v : Figures} {w : List ℕ} {r : Code.TableState} {x : Result (Unit {0}) AssembleError} → Let name expr ≡ statement_at s start end → Binds a name expr v w r x → MeetsLine s start end a r x
  meets-let f b = record {
    is = λ g.
        by_leb 256 a.table.count
        (λ l. let q = (b.full l).0 in cc)
        (λ l. let q = (b.more l).1 in ap met_of q ∙ ap (meeting s (met_of a)) f);
  }

  pub meets_return : {expr : Span} {x : Result Figures AssembleError} {v : Figures} → Return expr ≡ statement_at s start end → ReadToLast (take expr.end s) x → x ≡ Ok v → MeetsLine s start end a (returning a expr v) (Ok tt)
  meets_return {expr} f h q = record {
    is = λ g.
        ap (λ (n : ℕ). record { count = a.table.count; last = Some (record { start = expr.start; end = expr.end; count = a.table.count; next = n }) }) (subst (ReadToLast (take expr.end s)) q h)
        ∙ ap (meeting s (met_of a)) f;
  }

-- the parameters: one binding each, and no return
pub record Made (st : Scope) (names : List (List ℕ)) (x : Scope) : Type 0 where
  pub count : length x.env ≡ length st.env + length names
  pub last : x.last ≡ st.last

bound_on : (b : Bool) (st x : Scope) (r : Numbered) (f : Scope → Outcome Numbered Scope) → and_then (need b (refused r) (is st)) f ≡ is x → f st ≡ is x
bound_on true st x r f e = e
bound_on false st x r f e = not_is e

keyed_on : (k : Outcome Numbered ℕ) (st x : Scope) (name : List ℕ) (f : Scope → Outcome Numbered Scope) → and_then (and_then k (λ n. bound st name (num n))) f ≡ is x → (t : Tree) × (f (record { env = record { name = name; tree = t } ∷ st.env; last = st.last }) ≡ is x)
keyed_on (is n) st x name f e = (num n, bound_on (ltb (length st.env) 256) _ x (plain 21) f e)
keyed_on (refused r) st x name f e = not_is e

pub all_made : (vector : List ℕ) (n : ℕ) (st : Scope) (names : List (List ℕ)) (x : Scope) → each (parameter_bound vector) n st names ≡ is x → Made st names x
unfolding each
all_made vector n st [] x e = let f : st ≡ x = cc in subst (Made st []) f (record { count = omega arith; last = refl })
all_made vector n st (name ∷ names) x e =
    let k = keyed_on (keyed (vector_number vector name) n) st x name (λ next. each (parameter_bound vector) (n + 1) next names) e in
    let m = all_made vector (n + 1) _ names x k.1 in
    record { count = omega (arith, m.count); last = m.last }

pub no_place : (s : List ℕ) (table : Bindings) (values : Values) (l : Option Returned) → LastIs s table values l None → place_of l ≡ None
no_place s table values None h = refl
no_place s table values (Some l) h = absurd h
