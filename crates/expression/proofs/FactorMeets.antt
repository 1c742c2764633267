-- The promise of factor: what each of its tokens makes of it.
use Rattle.std.specs.Prelude.{Option, Some, None, Result, Ok, Err, ok_or, option_map}
use Rattle.figures.specs.declared.Figures.{Figures}
use Prim.Native.Nat.{ℕ, suc, ◌-◌, ◌^◌, ◌<◌, ◌≤◌}
use mathlib.Core.Path.{◌≡◌, refl, sym, ap, subst}
use mathlib.Core.List.{List, [], ◌∷◌}
use mathlib.Core.Bool.{true, false}
use native.Mathlib.Omega.{arith}
use Rattle.std.proofs.Common.{ap₂}
use borrow.Author.Tests.{ltb-true, ltb-false, eq-eqb, ne_eqb}
use lib.Dec.{ltb}
use lib.ListN.{length, drop}
use Rattle.base.specs.Lists.{all}
use Rattle.base.proofs.Tests.{by_bool, by_eqb}
use Rattle.decimal.specs.Decimal.{digit, value}
use Rattle.decimal.proofs.Laws.{length_word}
use Rattle.base.specs.declared.span.Span.{Span}
use Rattle.token.specs.Token.{tokens}
use Rattle.token.specs.Code.Places.{end_at, token_at}
use Rattle.token.proofs.Tokens.{Next, token_from, token_none, token_next, token_end}
use Rattle.expression.specs.declared.ExprError.{ExprError}
use Rattle.expression.specs.declared.ExprError.TheVariants.{UnexpectedEnd, UnbalancedParenthesis, InvalidLiteral, UnknownIdentifier, TooDeep}
use Rattle.expression.specs.declared.factors.Factor.{Factor}
use Rattle.expression.specs.declared.factors.Factor.TheVariants.{Open, Literal, Name}
use Rattle.expression.specs.declared.factors.FactorAt.{FactorAt}
use Rattle.expression.specs.declared.Operand.{Operand}
use Rattle.grammar.specs.Tree.{num}
use Rattle.grammar.specs.Parse.{Binding, Env, symbol, factor, expression}
use Rattle.figures.specs.Code.Figures.{FiguresOf, of_number}
use Rattle.bindings.specs.Code.Table.{Columns, Entry, entry_at, RowFor, TableFor, found}
use Rattle.expression.specs.Code.Parts.{sign_at, bound_read, Fits, closed_read}
use Rattle.expression.specs.Code.Factor.{factor_of, first_factor, ending, factor_at}
use Rattle.grammar.specs.Code.Reads.{Reads}
use Rattle.expression.specs.Code.Cycle.{ParsesAs}
use Rattle.grammar.proofs.Steps.{ended, too_deep, opened_refused, unclosed, closes, not-closed, number_read, number_refused, name_read_lem, name_refused}
use Rattle.bindings.proofs.Lookup.{Looked, looked}
use Rattle.expression.proofs.Atoms.{closed_is, closed_other}

pub none_meets : (s : List ℕ) (at : ℕ) (c : Columns) (d : ℕ) → tokens (drop at s) ≡ [] → ParsesAs s at c factor d (Err UnexpectedEnd)
none_meets s at c d e = record { fine = tt; means = λ env h. rw e (ended env d) }

-- figures with the sign behind them
abbrev pub followed_by : List ℕ → Result Figures ExprError → Result Operand ExprError
followed_by s (Ok v) = Ok (record { figures = v; sign = sign_at s v.next })
followed_by s (Err e) = Err e

-- a name's figures are its binding's
bound_figures : (s : List ℕ) (e : Entry) (end : ℕ) (b : Binding) → RowFor s e b → FiguresOf b.tree (bound_read e end)
bound_figures s e end b t = record { k = t.k; p = t.p; value = t.value; len = t.len; short = t.short }

module _ {s : List ℕ} {at : ℕ} (c : Columns) {start end : ℕ} (n : Next s at start end) where
  pub deep_meets : {room : ℕ} → room ≡ 0 → symbol (token_from s start) ≡ 40 → ParsesAs s at c factor room (Err TooDeep)
  deep_meets q o = subst (λ (r : ℕ). ParsesAs s at c factor r (Err TooDeep)) (sym q) (record { fine = tt; means = λ env h. rw n.list (too_deep env (token_from s start) (tokens (drop end s)) o) })

  module _ {d : ℕ} (o : symbol (token_from s start) ≡ 40) where
    opened : {e : ExprError} → ParsesAs s end c expression d (Err e) → ParsesAs s at c factor (suc d) (Err e)
    opened m = record { fine = tt; means = λ env h. rw n.list (opened_refused env (token_from s start) (tokens (drop end s)) o d (m.means env h)) }

    -- what was read in parentheses, and the tokens that follow it
    inner_ended : {u : Operand} → ParsesAs s end c expression d (Ok u) → tokens (drop u.figures.next s) ≡ [] → ParsesAs s at c factor (suc d) (Err UnexpectedEnd)
    inner_ended m e = record {
      fine = tt;
      means = λ env h.
          let x = m.means env h in
          rw n.list (unclosed env (token_from s start) (tokens (drop end s)) o d (subst (λ (ts : List (List ℕ)). Reads env expression d (tokens (drop end s)) x.0 ts) e x.1.0));
    }

    module _ {u : Operand} (m : ParsesAs s end c expression d (Ok u)) {i j : ℕ} (a : Next s u.figures.next i j) where
      inner_other : (symbol (token_from s i) ≡ 41 → ⊥) → ParsesAs s at c factor (suc d) (Err UnbalancedParenthesis)
      inner_other q = record {
        fine = tt;
        means = λ env h.
            let x = m.means env h in
            rw n.list (not-closed env (token_from s start) (tokens (drop end s)) o d (token_from s i) (subst (λ (ts : List (List ℕ)). Reads env expression d (tokens (drop end s)) x.0 ts) a.list x.1.0) q);
      }

      inner_done : symbol (token_from s i) ≡ 41 → ParsesAs s at c factor (suc d) (followed_by s (Ok (record { next = j; k = u.figures.k; p = u.figures.p; len = u.figures.len; value = u.figures.value })))
      inner_done q =
          let f = m.fine.0 in
          record {
            fine = (
              record {
                past = omega (arith, n.after, n.some, f.past, a.after, a.some);
                within = a.inside;
                last = a.last;
                k = omega (arith, n.after, n.some, f.past, f.k, a.after, a.some);
                p = omega (arith, n.after, n.some, f.past, f.p, a.after, a.some);
                len = omega (arith, n.after, n.some, f.past, f.len, a.after, a.some);
              },
              refl,
            );
            means = λ env h.
                let x = m.means env h in
                let g = x.1.1 in (
                  x.0,
                  (
                    rw n.list (closes env (token_from s start) (tokens (drop end s)) o d (token_from s i) (subst (λ (ts : List (List ℕ)). Reads env expression d (tokens (drop end s)) x.0 ts) a.list x.1.0) q),
                    record { k = g.k; p = g.p; value = g.value; len = g.len; short = g.short },
                  ),
                );
          }

    closed : {u : Operand} → ParsesAs s end c expression d (Ok u) → ParsesAs s at c factor (suc d) (followed_by s (closed_read (tokens (drop u.figures.next s)) (end_at s u.figures.next) u.figures))
    closed {u} m = go (token_at s v.next) refl
      where
        v : Figures
        v = u.figures

        go : (t : Option Span) → token_at s v.next ≡ t → ParsesAs s at c factor (suc d) (followed_by s (closed_read (tokens (drop v.next s)) (end_at s v.next) v))
        go None h =
            let e = (token_none s v.next h).0 in
            subst (λ (ts : List (List ℕ)). ParsesAs s at c factor (suc d) (followed_by s (closed_read ts (end_at s v.next) v))) (sym e) (inner_ended m e)
        go (Some t) h =
            let a = token_next s v.next h in
            subst (λ (j : ℕ). ParsesAs s at c factor (suc d) (followed_by s (closed_read (tokens (drop v.next s)) j v))) (sym (token_end s v.next h))
            (by_eqb (symbol (token_from s t.start)) 41
            (λ q. subst (λ (r : Result Figures ExprError). ParsesAs s at c factor (suc d) (followed_by s r)) (closed_is v t.end a.list q) (inner_done m a q))
            (λ q. subst (λ (r : Result Figures ExprError). ParsesAs s at c factor (suc d) (followed_by s r)) (closed_other v t.end a.list q) (inner_other m a q)))

  module _ {room d : ℕ} (q : room ≡ suc d) (o : symbol (token_from s start) ≡ 40) where
    pub inner_refused : {e : ExprError} → ParsesAs s end c expression d (Err e) → ParsesAs s at c factor room (Err e)
    inner_refused {e} m = subst (λ (r : ℕ). ParsesAs s at c factor r (Err e)) (sym q) (opened o m)

    pub inner_closed : {u : Operand} → ParsesAs s end c expression d (Ok u) → ParsesAs s at c factor room (followed_by s (closed_read (tokens (drop u.figures.next s)) (end_at s u.figures.next) u.figures))
    inner_closed {u} m = subst (λ (r : ℕ). ParsesAs s at c factor r (followed_by s (closed_read (tokens (drop u.figures.next s)) (end_at s u.figures.next) u.figures))) (sym q) (closed o m)

  -- a token that opens no parenthesis
  module _ (d : ℕ) (o : symbol (token_from s start) ≡ 40 → ⊥) where
    pub literal_meets : all digit (token_from s start) ≡ true → (v : ℕ) → value (token_from s start) ≡ v → v < 2 ^ 64 → ParsesAs s at c factor d (followed_by s (Ok (of_number v end)))
    literal_meets e v q h =
        let l = length_word v h in
        record {
          fine = (
            record {
              past = omega (arith, n.after, n.some);
              within = n.inside;
              last = n.last;
              k = omega (arith, n.after, n.some);
              p = omega (arith, n.after, n.some);
              len = omega (arith, n.after, n.some);
            },
            refl,
          );
          means = λ env g. (
            num v,
            (
              rw n.list (subst (λ (x : ℕ). Reads env factor d (token_from s start ∷ tokens (drop end s)) (num x) (tokens (drop end s))) q (number_read env d (token_from s start) (tokens (drop end s)) o e (subst (λ (x : ℕ). x < 2 ^ 64) (sym q) h))),
              record { k = refl; p = refl; value = refl; len = refl; short = omega arith },
            ),
          );
        }

    literal_refused : all digit (token_from s start) ≡ true → 2 ^ 64 ≤ value (token_from s start) → ParsesAs s at c factor d (Err InvalidLiteral)
    literal_refused e h = record { fine = tt; means = λ env g. rw n.list (number_refused env d (token_from s start) (tokens (drop end s)) o e h) }

    module _ (e : all digit (token_from s start) ≡ false) where
      found_looked : (env : Env) → TableFor s c env → {f : Option ℕ} → found c.count s c.names c.lens c.tags (token_from s start) ≡ f → Looked s c env (token_from s start) f
      found_looked env h q = subst (Looked s c env (token_from s start)) q (looked s c c.count env (token_from s start) h.told)

      pub name_meets : (i : ℕ) → found c.count s c.names c.lens c.tags (token_from s start) ≡ Some i → Fits (bound_read (entry_at c i) end) → ParsesAs s at c factor d (followed_by s (Ok (bound_read (entry_at c i) end)))
      name_meets i q a = record {
        fine = (
          record {
            past = omega (arith, n.after, n.some);
            within = n.inside;
            last = n.last;
            k = omega (arith, n.after, n.some, a.k);
            p = omega (arith, n.after, n.some, a.p);
            len = omega (arith, n.after, n.some, a.len);
          },
          refl,
        );
        means = λ env h.
            let l = found_looked env h q in
            let b = l.0 in (
              b.tree,
              (
                rw n.list (name_read_lem env d (token_from s start) (tokens (drop end s)) o e l.1.1),
                bound_figures s (entry_at c i) end b l.1.0,
              ),
            );
      }

      unknown_refused : found c.count s c.names c.lens c.tags (token_from s start) ≡ None → ParsesAs s at c factor d (Err UnknownIdentifier)
      unknown_refused q = record { fine = tt; means = λ env h. rw n.list (name_refused env d (token_from s start) (tokens (drop end s)) o e (found_looked env h q)) }

-- what is read at a place: what the grammar refuses too, or a factor
module _ (s : List ℕ) (at : ℕ) (c : Columns) (room : ℕ) where
  -- the token at a place starts a factor
  abbrev pub Starts : Factor → ℕ → Type 0
  Starts Open start = symbol (token_from s start) ≡ 40
  Starts (Literal v) start = (symbol (token_from s start) ≡ 40 → ⊥) × ((all digit (token_from s start) ≡ true) × ((value (token_from s start) ≡ v) × (v < 2 ^ 64)))
  Starts (Name i) start = (symbol (token_from s start) ≡ 40 → ⊥) × ((all digit (token_from s start) ≡ false) × (found c.count s c.names c.lens c.tags (token_from s start) ≡ Some i))

  abbrev pub FactorMeets : Result FactorAt ExprError → Type 0
  FactorMeets (Ok f) = (start : ℕ) × (Next s at start f.end × Starts f.factor start)
  FactorMeets (Err e) = ParsesAs s at c factor room (Err e)

  module _ {start end : ℕ} (n : Next s at start end) where
    abbrev w : List ℕ
    w = token_from s start

    abbrev read : Result Factor ExprError
    read = factor_of s c.count c.names c.lens c.tags w

    named : (symbol w ≡ 40 → ⊥) → all digit w ≡ false → (f : Option ℕ) → found c.count s c.names c.lens c.tags w ≡ f → FactorMeets (ending end (ok_or (option_map Name f) UnknownIdentifier))
    named o d None q = unknown_refused c n room o d q
    named o d (Some i) q = (start, (n, (o, (d, q))))

    token_meets : FactorMeets (ending end read)
    token_meets =
        by_eqb (symbol w) 40
        (λ q. let e : read ≡ Ok Open = simp (eq-eqb (symbol w) 40 q) in subst (λ (r : Result Factor ExprError). FactorMeets (ending end r)) (sym e) (start, (n, q)))
        (λ o.
        by_bool (all digit w)
        (λ d.
        by_bool (ltb (value w) (2 ^ 64))
        (λ h. let e : read ≡ Ok (Literal (value w)) = simp (ne_eqb (symbol w) 40 o, d, h) in subst (λ (r : Result Factor ExprError). FactorMeets (ending end r)) (sym e) (start, (n, (o, (d, (refl, ltb-true (value w) (2 ^ 64) h))))))
        (λ h. let e : read ≡ Err InvalidLiteral = simp (ne_eqb (symbol w) 40 o, d, h) in subst (λ (r : Result Factor ExprError). FactorMeets (ending end r)) (sym e) (literal_refused c n room o d (ltb-false (value w) (2 ^ 64) h))))
        (λ d.
        let e : read ≡ ok_or (option_map Name (found c.count s c.names c.lens c.tags w)) UnknownIdentifier = simp (ne_eqb (symbol w) 40 o, d) in
        subst (λ (r : Result Factor ExprError). FactorMeets (ending end r)) (sym e) (named o d (found c.count s c.names c.lens c.tags w) refl)))

  pub factor_meets : FactorMeets (factor_at s s at c.count c.names c.lens c.tags)
  factor_meets = go (token_at s at) refl
    where
      go : (t : Option Span) → token_at s at ≡ t → FactorMeets (factor_at s s at c.count c.names c.lens c.tags)
      go None e = let q = (token_none s at e).0 in subst (λ (ts : List (List ℕ)). FactorMeets (ending (end_at s at) (first_factor s c.count c.names c.lens c.tags ts))) (sym q) (none_meets s at c room q)
      go (Some t) e =
          let n = token_next s at e in
          subst FactorMeets (sym (ap₂ ending (token_end s at e) (ap (first_factor s c.count c.names c.lens c.tags) n.list))) (token_meets n)

  module _ {f : FactorAt} (e : factor_at s s at c.count c.names c.lens c.tags ≡ Ok f) where
    there : FactorMeets (Ok f)
    there = subst FactorMeets e factor_meets

    started : (x : Factor) → f.factor ≡ x → Starts x there.0
    started x q = subst (λ (y : Factor). Starts y there.0) q there.1.1

    pub factor_past : (at < f.end) × (f.end ≤ length s)
    factor_past = let n = there.1.0 in (omega (arith, n.after, n.some), n.inside)

    pub open_deep : f.factor ≡ Open → room ≡ 0 → ParsesAs s at c factor room (Err TooDeep)
    open_deep q z = deep_meets c there.1.0 z (started Open q)

    pub open_refused : f.factor ≡ Open → (room ≡ 0 → ⊥) → {x : ExprError} → ParsesAs s f.end c expression (room - 1) (Err x) → ParsesAs s at c factor room (Err x)
    open_refused q z = inner_refused c there.1.0 (omega arith) (started Open q)

    pub open_closed : f.factor ≡ Open → (room ≡ 0 → ⊥) → {u : Operand} → ParsesAs s f.end c expression (room - 1) (Ok u) → ParsesAs s at c factor room (followed_by s (closed_read (tokens (drop u.figures.next s)) (end_at s u.figures.next) u.figures))
    open_closed q z = inner_closed c there.1.0 (omega arith) (started Open q)

    pub literal_done : (v : ℕ) → f.factor ≡ Literal v → ParsesAs s at c factor room (followed_by s (Ok (of_number v f.end)))
    literal_done v q = let x = started (Literal v) q in literal_meets c there.1.0 room x.0 x.1.0 v x.1.1.0 x.1.1.1

    pub name_found : (i : ℕ) → f.factor ≡ Name i → (w : List ℕ) × (found c.count s c.names c.lens c.tags w ≡ Some i)
    name_found i q = (token_from s there.0, (started (Name i) q).1.1)

    pub name_done : (i : ℕ) → f.factor ≡ Name i → Fits (bound_read (entry_at c i) f.end) → ParsesAs s at c factor room (followed_by s (Ok (bound_read (entry_at c i) f.end)))
    name_done i q = let x = started (Name i) q in name_meets c there.1.0 room x.0 x.1.0 i x.1.1
