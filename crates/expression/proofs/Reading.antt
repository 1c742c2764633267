-- The promises of expression, sum and term: operands that operators join, step by step as the code reads them.
use Rattle.std.specs.Prelude.{Option, Some, None, Result, Ok, Err}
use Prim.Native.Nat.{ℕ, suc, ◌<◌, ◌≤◌}
use mathlib.Core.Path.{◌≡◌, refl, sym, ap, subst, ◌∙◌}
use mathlib.Core.List.{List, ◌∷◌}
use mathlib.Core.Bool.{true}
use native.Mathlib.Omega.{arith}
use lib.ListN.{length, drop}
use Rattle.word.specs.Apply.{Binary, add, sub, mul, div, eq, lt}
use Rattle.word.specs.declared.Operator.{Operator}
use Rattle.word.specs.Code.Operator.{binary_of}
use Rattle.token.specs.Token.{tokens}
use Rattle.token.specs.Code.Places.{first, first_span, start_at}
use Rattle.token.proofs.Tokens.{token_next}
use Rattle.figures.specs.declared.Figures.{Figures}
use Rattle.expression.specs.declared.ExprError.{ExprError}
use Rattle.expression.specs.declared.parts.Level.{Level}
use Rattle.expression.specs.declared.parts.Level.TheVariants.{Product, Sum, Comparison}
use Rattle.expression.specs.declared.Operand.{Operand}
use Rattle.expression.specs.declared.Left.{Left as Before}
use Rattle.grammar.specs.Tree.{Tree, bin}
use Rattle.grammar.specs.Code.Lengths.{operator_length}
use Rattle.grammar.specs.Parse.{Env, symbol, is_operator_at, operator, factor, term, sum}
use Rattle.figures.specs.Code.Figures.{FiguresOf, SumsFit, Joined}
use Rattle.bindings.specs.Code.Table.{Columns, TableFor}
use Rattle.expression.specs.Code.Parts.{sign_at, level_number, operator_in, JoinedTo}
use Rattle.grammar.specs.Code.Reads.{Reads}
use Rattle.expression.specs.Code.Cycle.{ReadWithin, ParsesAs}
use Rattle.expression.proofs.Signs.{first_operator, no_operator}
use Rattle.grammar.proofs.Steps.{Left, starts, starts_refused, turns, turns_refused, stops}

pub carry : {s : List ℕ} {at : ℕ} {c : Columns} {l d : ℕ} {r q : Result Operand ExprError} → r ≡ q → ParsesAs s at c l d r → ParsesAs s at c l d q
carry {s} {at} {c} {l} {d} e m = subst (λ (x : Result Operand ExprError). ParsesAs s at c l d x) e m

-- sums of figures fit, since a text has at most 65,536 bytes
pub small : {s : List ℕ} {at : ℕ} {v : Figures} → length s ≤ 65536 → ReadWithin s at v → SumsFit v
small {s} {at} {v} h p = record { k = omega (arith, p.k, p.within); p = omega (arith, p.p, p.within); len = omega (arith, p.len, p.within) }

-- an operator's line has at most 4 bytes
pub line_most : (op : Binary) → operator_length op ≤ 4
line_most add = omega arith
line_most sub = omega arith
line_most mul = omega arith
line_most div = omega arith
line_most eq = omega arith
line_most lt = omega arith

figures_join : {op : Binary} {t u : Tree} {v w r : Figures} → FiguresOf t v → FiguresOf u w → Joined op v w r → FiguresOf (bin op t u) r
figures_join {op} {t} {u} {v} {w} {r} f g j =
    let l = line_most op in
    record {
      k = omega (arith, j.k, f.k, g.k);
      p = cc (j.p, f.p, g.p);
      value = cc (j.value, f.value, g.value);
      len = omega (arith, j.len, f.len, g.len);
      short = omega (arith, f.short, g.short);
    }

-- the level of the operands that the operators of a level join
abbrev pub below : Level → ℕ
below Product = factor
below Sum = term
below Comparison = sum

above : (l : Level) → level_number l ≡ suc (below l)
above Product = refl
above Sum = refl
above Comparison = refl

-- an operator of a level is the next token
record NextOperator (l : Level) (s : List ℕ) (at : ℕ) (op : Operator) (end : ℕ) : Type 0 where
  token : List ℕ
  past : at < end
  inside : end ≤ length s
  means : operator (symbol token) ≡ binary_of op
  joins : is_operator_at (suc (below l)) (symbol token) ≡ true
  list : tokens (drop at s) ≡ token ∷ tokens (drop end s)

operator_next : (l : Level) (s : List ℕ) (at : ℕ) {op : Operator} {end : ℕ} → operator_in l (sign_at s at) ≡ Some (op, end) → NextOperator l s at op end
operator_next l s at {op} {end} e =
    let f = first_operator l (start_at s at) (tokens (drop at s)) e in
    let n = token_next s at (ap (first_span (start_at s at)) f.list) in
    record {
      token = f.token;
      past = omega (arith, n.after, n.some, f.ends);
      inside = omega (arith, n.inside, f.ends);
      means = f.means;
      joins = ap (λ (m : ℕ). is_operator_at m (symbol f.token)) (sym (above l)) ∙ f.joins;
      list = f.list ∙ ap (λ (ts : List (List ℕ)). f.token ∷ drop 1 ts) (sym f.list ∙ n.list) ∙ ap (λ (i : ℕ). f.token ∷ tokens (drop i s)) f.ends;
    }

-- operands of a level's operators joined so far
pub record Going (l : Level) (s : List ℕ) (at : ℕ) (c : Columns) (d : ℕ) (v : Figures) : Type 0 where
  pub placed : ReadWithin s at v
  pub means : (env : Env) → TableFor s c env → (t : Tree) × (Left env (below l) d (tokens (drop at s)) t (tokens (drop v.next s)) × FiguresOf t v)

module _ (l : Level) {s : List ℕ} {at : ℕ} {c : Columns} {d : ℕ} where
  -- the first operand
  begins : {o : Operand} → ParsesAs s at c (below l) d (Ok o) → Going l s at c d o.figures
  begins m = record { placed = m.fine.0; means = λ env h. let x = m.means env h in (x.0, (starts x.1.0, x.1.1)) }

  begins_refused : {e : ExprError} → ParsesAs s at c (below l) d (Err e) → ParsesAs s at c (suc (below l)) d (Err e)
  begins_refused m = record { fine = tt; means = λ env h. starts_refused (m.means env h) }

  -- no operator follows
  pub finishes : {o : Operand} → Going l s at c d o.figures × (o.sign ≡ sign_at s o.figures.next) → operator_in l o.sign ≡ None → ParsesAs s at c (suc (below l)) d (Ok o)
  finishes {o} (g, f) e =
      let j = no_operator l (start_at s o.figures.next) (tokens (drop o.figures.next s)) (ap (operator_in l) (sym f) ∙ e) in
      record {
        fine = (g.placed, f);
        means = λ env h.
            let x = g.means env h in
            (x.0, (stops (ap (λ (m : ℕ). is_operator_at m (symbol (first (tokens (drop o.figures.next s))))) (sym (above l)) ∙ j) x.1.0, x.1.1));
      }

  -- an operator follows
  module _ {v : Figures} (g : Going l s at c d v) {op : Operator} {end : ℕ} (i : NextOperator l s v.next op end) where
    goes_refused : {x : ExprError} → ParsesAs s end c (below l) d (Err x) → ParsesAs s at c (suc (below l)) d (Err x)
    goes_refused m =
        record {
          fine = tt;
          means = λ env h.
              let y = g.means env h in
              turns_refused i.token i.joins (subst (λ (ts : List (List ℕ)). Left env (below l) d (tokens (drop at s)) y.0 ts) i.list y.1.0) (m.means env h);
        }

    goes_on_lem : {w : Operand} {r : Figures} → ParsesAs s end c (below l) d (Ok w) → Joined (binary_of op) v w.figures r → Going l s at c d r
    goes_on_lem {w} {r} m q =
        let p = g.placed in
        let n = m.fine.0 in
        record {
          placed = record {
            past = omega (arith, q.next, p.past, i.past, n.past);
            within = omega (arith, q.next, n.within);
            last = rw q.next n.last;
            k = omega (arith, q.next, q.k, p.past, i.past, n.past, p.k, n.k);
            p = omega (arith, q.next, q.p, p.past, i.past, n.past, p.p, n.p);
            len = omega (arith, q.next, q.len, line_most (binary_of op), p.past, i.past, n.past, p.len, n.len);
          };
          means = λ env h. joining env (g.means env h) (m.means env h);
        }
      where
        joining : (env : Env) → (t : Tree) × (Left env (below l) d (tokens (drop at s)) t (tokens (drop v.next s)) × FiguresOf t v)
            → (u : Tree) × (Reads env (below l) d (tokens (drop end s)) u (tokens (drop w.figures.next s)) × FiguresOf u w.figures)
            → (t : Tree) × (Left env (below l) d (tokens (drop at s)) t (tokens (drop r.next s)) × FiguresOf t r)
        joining env (t, (x, f)) (u, (y, k)) =
            let b = turns i.token i.joins (subst (λ (ts : List (List ℕ)). Left env (below l) d (tokens (drop at s)) t ts) i.list x) y in (
              bin (binary_of op) t u,
              (
                subst (λ (n : ℕ). Left env (below l) d (tokens (drop at s)) (bin (binary_of op) t u) (tokens (drop n s))) (sym q.next) (subst (λ (a : Binary). Left env (below l) d (tokens (drop at s)) (bin a t u) (tokens (drop w.figures.next s))) i.means b),
                figures_join f k q,
              ),
            )

-- before an operand, which starts at an offset: the first, or one behind an operator
pub data Chain (l : Level) (s : List ℕ) (at : ℕ) (c : Columns) (d : ℕ) : Option Before → ℕ → Type 0 where
  starting : Chain l s at c d None at
  behind : {x : Before} {next : ℕ} → Going l s at c d x.figures → operator_in l (sign_at s x.figures.next) ≡ Some (x.operator, next) → Chain l s at c d (Some x) next

-- what a level has read, with the sign behind it
abbrev pub Read : Level → List ℕ → ℕ → Columns → ℕ → Operand → Type 0
Read l s at c d o = Going l s at c d o.figures × (o.sign ≡ sign_at s o.figures.next)

module _ {l : Level} {s : List ℕ} {at : ℕ} {c : Columns} {d : ℕ} where
  pub chain_refused : {b : Option Before} {next : ℕ} {e : ExprError} → Chain l s at c d b next → ParsesAs s next c (below l) d (Err e) → ParsesAs s at c (suc (below l)) d (Err e)
  chain_refused starting m = begins_refused l m
  chain_refused (behind {x} g e) m = goes_refused l g (operator_next l s x.figures.next e) m

  pub chain_joined : {b : Option Before} {next : ℕ} {w r : Operand} → Chain l s at c d b next → ParsesAs s next c (below l) d (Ok w) → JoinedTo b w r → Read l s at c d r
  chain_joined starting m j = subst (Read l s at c d) (sym j) (begins l m, m.fine.1)
  chain_joined (behind {x} g e) m (j, f) = (goes_on_lem l g (operator_next l s x.figures.next e) m j, f ∙ m.fine.1 ∙ ap (sign_at s) (sym j.next))

  -- the operator behind what is read
  pub chain_next : {o : Operand} {op : Operator} {next : ℕ} → Read l s at c d o → operator_in l o.sign ≡ Some (op, next) → Chain l s at c d (Some (record { figures = o.figures; operator = op })) next
  chain_next (g, f) e = behind g (ap (operator_in l) (sym f) ∙ e)
