-- Laws of a body's line: what its statement makes of a state.
use Rattle.std.specs.Prelude.{Some, Result, Ok, Err}
use Rattle.std.specs.Option.{unwrap_or}
use Prim.Native.Nat.{ℕ, ◌-◌, ◌≤◌}
use mathlib.Core.Path.{◌≡◌, refl, sym, ap, subst, ◌∙◌}
use mathlib.Core.List.{List}
use native.Mathlib.Omega.{arith}
use borrow.Author.Tests.{le-leb}
use lib.ListN.{take, drop}
use lib.Seq.{length-take-le}
use Rattle.base.specs.declared.span.Span.{Span}
use Rattle.figures.specs.declared.Figures.{Figures}
use Rattle.grammar.specs.Tree.{Tree, k_of}
use Rattle.grammar.specs.Parse.{Env, meaning}
use Rattle.bindings.specs.Code.Table.{columns}
use Rattle.expression.proofs.Meaning.{meaning_empty}
use Rattle.trim.specs.Trim.{trimmed}
use Rattle.scope.specs.declared.refusal.AssembleError.{AssembleError}
use Rattle.scope.specs.declared.refusal.AssembleError.TheVariants.{NoEquals}
use Rattle.scope.specs.declared.state.TableState as Code
use Rattle.body.specs.declared.statement.StatementSpans.{StatementSpans}
use Rattle.body.specs.declared.statement.StatementSpans.TheVariants as Stmt
use Rattle.scope.specs.Part.{part}
use Rattle.scope.specs.Scope.{Scope, bound}
use Rattle.numbered.specs.Numbered.{plain}
use Rattle.numbered.specs.declared.Numbered.{Numbered}
use Rattle.base.specs.Outcome.{Outcome, is, refused}
use Rattle.body.specs.Statement.{binds, returns}
use Rattle.body.specs.Body.{tree_or, statement_read, line_read}
use Rattle.body.specs.Code.Places.{Inside, AllInside, StatementStands, statement_at, texts}
use Rattle.scope.specs.Code.Stored.{returning, SpanFits, FiguresFit, Binds}
use Rattle.body.specs.Code.Checked.{ChecksAll, LetWithin}
use Rattle.scope.specs.Code.Held.{Represents, Represented, Simulates, SimulatesStep, Within}
use Rattle.body.proofs.Places.{stands}
use Rattle.scope.proofs.Tables.{part_take}
use Rattle.scope.proofs.Sources.{Gives}
use Rattle.scope.proofs.Simulation.{leads_on, leads_off, represents_later, leads_later, bound_leads}
use Rattle.body.proofs.Expressions.{figures_small}

tree_found : {m : Outcome Numbered Tree} {t : Tree} (line : ℕ) (f : Tree → Outcome Numbered Scope) → m ≡ is t → k_of t ≤ 32768 → tree_or m line f ≡ f t
tree_found {t = t} line f e l = let b = le-leb (k_of t) 32768 l in rw (e, b)

-- an expression from start to end of the contract s, on a line
module _ (s : List ℕ) (a : Code.TableState) (expr : Span) (w : Within s expr.start expr.end) (line : ℕ) where
  abbrev text : List ℕ
  text = part s expr.start expr.end

  abbrev before : List ℕ
  before = take expr.start s

  abbrev behind : List ℕ
  behind = take expr.end s

  later : {st : Scope} → Represents before a st → Represents behind a st
  later q = represents_later s expr.start expr.end w.ordered w.inside q

  part_in : part behind expr.start expr.end ≡ text
  part_in = part_take s expr.end expr.end (omega arith) w.inside expr.start (expr.end - expr.start) (omega (arith, w.ordered, length-take-le expr.end s w.inside))

  expression_refused : {why : AssembleError} → ChecksAll behind (columns a.table a.values) line text (Err why)
      → (f : Scope → Tree → Outcome Numbered Scope) → {left : Code.TableState} → SimulatesStep before a (λ st. tree_or (meaning st.env text) line (f st)) behind left (Err why)
  expression_refused k f = record { leads = λ st q. leads_off refl (k.is st.env (later q).holds (f st)) }

  module _ {v : Figures} (k : ChecksAll behind (columns a.table a.values) line text (Ok v)) where
    small : Represented before a → FiguresFit v
    small g = let x = k.is g.st.env (later g.represents).holds in figures_small x.1.1.0 x.1.1.1

    return_read : SimulatesStep before a (λ st. statement_read line st (returns text)) behind (returning a expr v) (Ok tt)
    return_read = record {
      leads = λ st q.
          let x = k.is st.env (later q).holds in
          leads_on refl
          (record {
            full = (later q).full;
            holds = (later q).holds;
            stand = (later q).stand;
            sources = (later q).sources;
            last = record {
              figures = x.1.1.1;
              few = omega arith;
              ordered = w.ordered;
              inside = omega (arith, length-take-le expr.end s w.inside);
              means = rw (part_in, ← (later q).sources) x.1.0;
            };
          })
          (tree_found line _ x.1.0 x.1.1.0);
    }

    -- an expression that is empty means no tree
    gives : {env : Env} {t : Tree} → meaning env text ≡ is t → Gives behind env expr (unwrap_or v.value 0) t
    gives {env} {t} e = record {
      ordered = w.ordered;
      inside = omega (arith, length-take-le expr.end s w.inside);
      number = λ z.
          let y : expr.end - expr.start ≡ 0 = omega arith in
          let u : refused (plain 14) ≡ is t = sym (ap (λ (n : ℕ). meaning env (take n (drop expr.start s))) y ∙ meaning_empty env) ∙ e in
          absurd (let c : ◌≡◌ {A = ℕ} 0 1 = cc in omega arith);
      means = λ l. rw part_in e;
    }

    let-read : (name : Span) {r : Code.TableState} {y : Result (Unit {0}) AssembleError} → name.start ≤ name.end → name.end ≤ expr.start → Binds a name expr v (part s name.start name.end) r y
        → SimulatesStep before a (λ st. statement_read line st (binds (part s name.start name.end) text)) behind r y
    let-read name {r} {y = answer} o h b = record {
      leads = λ st q.
          let x = k.is st.env (later q).holds in
          let n = length-take-le expr.end s w.inside in
          let e : part behind name.start name.end ≡ part s name.start name.end = part_take s expr.end expr.end (omega arith) w.inside name.start (name.end - name.start) (let y = w.ordered in omega arith) in
          let z = tree_found line (bound st (part s name.start name.end)) x.1.0 x.1.1.0 in
          subst (λ (u : Outcome Numbered Scope). Simulates behind r answer u is) (ap (λ (u : List ℕ). bound st u x.0) e ∙ sym z) (bound_leads behind a r name expr v b o (let y = w.ordered in omega arith) (sym e) (later q) x.1.1.1 (gives x.1.0));
    }

-- the line from start to end of the contract
module _ (s : List ℕ) (start end : ℕ) (w : Within s start end) where
  here : (r : StatementSpans) → r ≡ statement_at s start end → StatementStands s start end (trimmed (part s start end)) r
  here r e = rw e (stands s start end w.ordered w.inside)

  within : (p : Span) → Inside start end p → Within s p.start p.end
  within p i = record { short = w.short; ordered = i.ordered; fits = let x = i.high in let y = w.fits in omega arith; inside = let x = i.high in let y = w.inside in omega arith }

  module _ {name expr : Span} (e : Stmt.Let name expr ≡ statement_at s start end) where
    let-inside : AllInside start end (Stmt.Let name expr)
    let-inside = (here _ e).inside

    pub let-within : LetWithin s name expr
    let-within = let i = let-inside in record { ordered = i.0.ordered; between = i.1.1; within = within expr i.1.0 }

  module _ {expr : Span} (e : Stmt.Return expr ≡ statement_at s start end) where
    return_inside : Inside start end expr
    return_inside = (here _ e).inside

    pub return_within : Within s expr.start expr.end
    return_within = within expr return_inside

  -- what it makes of a state
  module _ (a : Code.TableState) (line : ℕ) where
    abbrev read : Scope → Outcome Numbered Scope
    read st = line_read line st (part s start end)

    says : (r : StatementSpans) → r ≡ statement_at s start end → (st : Scope) → read st ≡ statement_read line st (texts s r)
    says r e st = ap (statement_read line st) (sym (here r e).says)

    -- what a part of the line makes of a state is what the line does
    wider : {f : Scope → Outcome Numbered Scope} {r : Code.TableState} {x : Result (Unit {0}) AssembleError} (p : Span) → Inside start end p → SimulatesStep (take p.start s) a f (take p.end s) r x → ((st : Scope) → read st ≡ f st) → SimulatesStep (take start s) a read (take end s) r x
    wider {f} {r} {x = answer} p i g e = record {
      leads = λ st q.
          let x = g.leads st (represents_later s start p.start i.low (let y = w.inside in omega (arith, i.ordered, i.high)) q) in
          leads_later s p.end end i.high w.inside (subst (λ (u : Outcome Numbered Scope). Simulates (take p.end s) r answer u is) (sym (e st)) x);
    }

    good_within : (p : Span) → Inside start end p → Represented (take start s) a → Represented (take p.start s) a
    good_within p i g = record { st = g.st; represents = represents_later s start p.start i.low (let y = w.inside in omega (arith, i.ordered, i.high)) g.represents }

    abbrev ExprChecked : Span → Result Figures AssembleError → Type 0
    ExprChecked expr = ChecksAll (take expr.end s) (columns a.table a.values) line (part s expr.start expr.end)

    pub skipped-follows : Stmt.Skipped ≡ statement_at s start end → SimulatesStep (take start s) a read (take end s) a (Ok tt)
    skipped-follows e = record { leads = λ st q. leads_on refl (represents_later s start end w.ordered w.inside q) (says _ e st) }

    pub no_equals_follows : Stmt.NoEquals ≡ statement_at s start end → {left : Code.TableState} → SimulatesStep (take start s) a read (take end s) left (Err (NoEquals line))
    no_equals_follows e = record { leads = λ st q. leads_off refl (says _ e st) }

    module _ {name expr : Span} (e : Stmt.Let name expr ≡ statement_at s start end) where
      line-let : {r : Code.TableState} {x : Result (Unit {0}) AssembleError} → SimulatesStep (take expr.start s) a (λ st. statement_read line st (binds (part s name.start name.end) (part s expr.start expr.end))) (take expr.end s) r x → SimulatesStep (take start s) a read (take end s) r x
      line-let g = wider expr (let-inside e).1.0 g (says _ e)

      pub let-refused : {why : AssembleError} → ExprChecked expr (Err why) → {left : Code.TableState} → SimulatesStep (take start s) a read (take end s) left (Err why)
      let-refused k = line-let (expression_refused s a expr (let-within e).within line k (λ st. bound st (part s name.start name.end)))

      module _ {v : Figures} (k : ExprChecked expr (Ok v)) where
        -- the binding's places and figures fit the table
        pub let-fits : Represented (take start s) a → SpanFits name × (SpanFits expr × FiguresFit v)
        let-fits g =
            let l = let-within e in (
              record { ordered = l.ordered; fits = omega (arith, l.between, l.within.ordered, l.within.fits) },
              (
                record { ordered = l.within.ordered; fits = l.within.fits },
                small s a expr l.within line k (good_within expr (let-inside e).1.0 g),
              ),
            )

        pub let-follows : {r : Code.TableState} {x : Result (Unit {0}) AssembleError} → Binds a name expr v (part s name.start name.end) r x → SimulatesStep (take start s) a read (take end s) r x
        let-follows b = let l = let-within e in line-let (let-read s a expr l.within line k name l.ordered l.between b)

    module _ {expr : Span} (e : Stmt.Return expr ≡ statement_at s start end) where
      line_return : {r : Code.TableState} {x : Result (Unit {0}) AssembleError} → SimulatesStep (take expr.start s) a (λ st. statement_read line st (returns (part s expr.start expr.end))) (take expr.end s) r x → SimulatesStep (take start s) a read (take end s) r x
      line_return g = wider expr (return_inside e) g (says _ e)

      pub return_refused : {why : AssembleError} → ExprChecked expr (Err why) → {left : Code.TableState} → SimulatesStep (take start s) a read (take end s) left (Err why)
      return_refused k = line_return (expression_refused s a expr (return_within e) line k (λ st t. is (record { env = st.env; last = Some t })))

      pub return_follows : {v : Figures} → ExprChecked expr (Ok v) → SimulatesStep (take start s) a read (take end s) (returning a expr v) (Ok tt)
      return_follows k = line_return (return_read s a expr (return_within e) line k)
