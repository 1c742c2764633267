-- Laws of the bindings as the contract writes them: in a longer text, and with one binding more.
use Rattle.std.specs.Prelude.{Option, Some, None}
use Rattle.std.specs.Option.{unwrap_or}
use Prim.Native.Nat.{ℕ, zero, suc, ◌-◌, ◌<◌, ◌≤◌}
use mathlib.Core.Path.{◌≡◌, refl, sym, ap, subst, ◌∙◌}
use mathlib.Core.List.{List, [], ◌∷◌}
use native.Mathlib.Numerals.{add-one}
use native.Mathlib.Omega.{arith}
use borrow.Author.Tests.{ne_eqb}
use lib.ListN.{length, get_or, take}
use lib.Seq.{length-take-le}
use Rattle.base.specs.Outcome.{is}
use Rattle.base.proofs.Tests.{by_eqb}
use Rattle.base.specs.declared.span.Span.{Span}
use Rattle.bindings.specs.declared.Bindings.{Bindings}
use Rattle.bindings.specs.declared.Values.{Values}
use Rattle.figures.specs.declared.Figures.{Figures}
use Rattle.grammar.specs.Tree.{Tree, num}
use Rattle.grammar.specs.Parse.{Env, meaning}
use Rattle.bindings.specs.Code.Table.{tag_of}
use Rattle.bindings.specs.Code.Source.{Sources, sources, name_of, expression_of, env_of, tree_of, InText, AllInText}
use Rattle.scope.specs.declared.state.TableState.{TableState}
use Rattle.scope.specs.declared.state.Returned.{Returned}
use Rattle.scope.specs.Part.{part}
use Rattle.scope.specs.Code.Stored.{More}
use Rattle.scope.specs.Code.Held.{ReturnIs, LastIs}
use Rattle.scope.proofs.Tables.{later}

pub env_none : (s : List ℕ) (c : Sources) (n : ℕ) → n ≡ 0 → [] ≡ env_of s c n
unfolding env_of
env_none s c n e = rw e

-- binding i of d in the text t is written as binding i of c in s
record Same (s : List ℕ) (c : Sources) (t : List ℕ) (d : Sources) (i : ℕ) : Type 0 where
  pub names : get_or d.names i 0 ≡ get_or c.names i 0
  pub lens : get_or d.lens i 0 ≡ get_or c.lens i 0
  pub tags : get_or d.tags i 0 ≡ get_or c.tags i 0
  pub starts : get_or d.starts i 0 ≡ get_or c.starts i 0
  pub sizes : get_or d.sizes i 0 ≡ get_or c.sizes i 0
  pub values : get_or d.values i 0 ≡ get_or c.values i 0
  pub name : name_of t d i ≡ name_of s c i
  pub expression : expression_of t d i ≡ expression_of s c i

abbrev AllSame : List ℕ → Sources → List ℕ → Sources → ℕ → Type 0
AllSame s c t d n = (i : ℕ) → i < n → Same s c t d i

module _ (s : List ℕ) (c : Sources) (t : List ℕ) (d : Sources) where
  env_same : (n : ℕ) → AllSame s c t d n → env_of t d n ≡ env_of s c n
  unfolding env_of
  env_same zero h = refl
  env_same (suc n) h =
      let x = h n (omega arith) in
      let e = env_same n (λ i l. h i (omega arith)) in
      cc (x.name, x.sizes, x.values, x.expression, e)

  module _ (l : length s ≤ length t) (n : ℕ) (h : AllSame s c t d n) where
    stand_same : AllInText s c n → AllInText t d n
    stand_same q i m =
        let x = h i m in
        let y = q i m in
        let e = env_same i (λ j k. h j (omega arith)) in
        record {
          name = omega (arith, x.names, x.lens, y.name);
          tag = x.tags ∙ y.tag ∙ ap tag_of (sym x.name);
          inside = omega (arith, x.starts, x.sizes, y.inside);
          means = λ p. let z = y.means (omega (arith, x.sizes)) in cc (x.sizes, x.values, x.expression, e, z);
        }

-- what the last return means
module _ (s t : List ℕ) (b b' : Bindings) (v v' : Values) (h : AllSame s (sources b v) t (sources b' v') b.count) (few : b.count ≤ b'.count)
    (parts : (i e : ℕ) → i ≤ e → e ≤ length s → part t i e ≡ part s i e) (l : length s ≤ length t) where
  return_same : {r : Returned} {u : Tree} → ReturnIs s b v r u → ReturnIs t b' v' r u
  return_same {r} {u} q =
      let e = env_same s (sources b v) t (sources b' v') r.count (λ i m. h i (omega (arith, q.few))) in
      record {
        figures = q.figures;
        few = omega (arith, q.few);
        ordered = q.ordered;
        inside = omega (arith, q.inside);
        means = rw (e, parts r.expr.start r.expr.end q.ordered q.inside) q.means;
      }

  last_same : (x : Option Returned) (o : Option Tree) → LastIs s b v x o → LastIs t b' v' x o
  last_same None None q = q
  last_same None (Some u) q = q
  last_same (Some r) None q = q
  last_same (Some r) (Some u) q = return_same q

abbrev srcs : TableState → Sources
srcs a = sources a.table a.values

-- what stands in the text before a place stands in the text before a later one
module _ (s : List ℕ) (i e : ℕ) (h : i ≤ e) (k : e ≤ length s) where
  longer : length (take i s) ≤ length (take e s)
  longer = omega (arith, length-take-le i s (omega arith), length-take-le e s k)

  part_later : (start end : ℕ) → start ≤ end → end ≤ length (take i s) → part (take e s) start end ≡ part (take i s) start end
  part_later start end o m = sym (later s i e h k start (end - start) (omega arith))

  same_later : {c : Sources} {n : ℕ} → AllInText (take i s) c n → AllSame (take i s) c (take e s) c n
  same_later {c} q j m =
      let y = q j m in
      record {
        names = refl;
        lens = refl;
        tags = refl;
        starts = refl;
        sizes = refl;
        values = refl;
        name = sym (later s i e h k (get_or c.names j 0) (get_or c.lens j 0) y.name);
        expression = sym (later s i e h k (get_or c.starts j 0) (get_or c.sizes j 0) y.inside);
      }

  module _ {c : Sources} {n : ℕ} (q : AllInText (take i s) c n) where
    pub env_later : env_of (take i s) c n ≡ env_of (take e s) c n
    env_later = sym (env_same (take i s) c (take e s) c n (same_later q))

    pub stand_later : AllInText (take e s) c n
    stand_later = stand_same (take i s) c (take e s) c longer n (same_later q) q

  pub last_later : (a : TableState) (o : Option Tree) → AllInText (take i s) (srcs a) a.table.count → LastIs (take i s) a.table a.values a.last o → LastIs (take e s) a.table a.values a.last o
  last_later a o q t = last_same (take i s) (take e s) a.table a.table a.values a.values (same_later q) (omega arith) part_later longer a.last o t

-- the expression of a binding stands in the text and means t among those before it; where it is empty, t is a number
pub record Gives (s : List ℕ) (env : Env) (expr : Span) (n : ℕ) (t : Tree) : Type 0 where
  pub ordered : expr.start ≤ expr.end
  pub inside : expr.end ≤ length s
  pub number : expr.end ≡ expr.start → t ≡ num n
  pub means : expr.start < expr.end → meaning env (part s expr.start expr.end) ≡ is t

abbrev env_in : List ℕ → TableState → Env
env_in s a = env_of s (srcs a) a.table.count

-- one binding more
module _ (s : List ℕ) {a r : TableState} {name expr : Span} {v : Figures} {w : List ℕ} (m : More a name expr v w r) where
  same_more : AllSame s (srcs a) s (srcs r) a.table.count
  same_more i l =
      let d : i ≡ a.table.count → ⊥ = λ e. omega arith in
      let names = m.table.name_start.other i d in
      let lens = m.table.name_len.other i d in
      let starts = m.table.expr_start.other i d in
      let sizes = m.table.expr_len.other i d in
      record {
        names = names;
        lens = lens;
        tags = m.values.tag.other i d;
        starts = starts;
        sizes = sizes;
        values = m.values.value.other i d;
        name = rw (names, lens);
        expression = rw (starts, sizes);
      }

  env_before : env_of s (srcs r) a.table.count ≡ env_in s a
  env_before = env_same s (srcs a) s (srcs r) a.table.count same_more

  pub last_more : (x : Option Returned) (o : Option Tree) → LastIs s a.table a.values x o → LastIs s r.table r.values x o
  last_more x o q = last_same s s a.table r.table a.values r.values same_more (omega (arith, m.table.count)) (λ i e p h. refl) (omega arith) x o q

  module _ {t : Tree} (g : Gives s (env_in s a) expr (unwrap_or v.value 0) t) where
    new_means : expr.start < expr.end → meaning (env_of s (srcs r) a.table.count) (expression_of s (srcs r) a.table.count) ≡ is t
    new_means l = rw (m.table.expr_start.here, m.table.expr_len.here, env_before) (g.means l)

    new_tree : tree_of s (srcs r) a.table.count ≡ t
    new_tree =
        let size = m.table.expr_len.here in
        let o = g.ordered in
        by_eqb (expr.end - expr.start) 0
        (λ z. let y = size ∙ z in rw (y, m.values.value.here) (sym (g.number (omega arith))))
        (λ z. let y = ne_eqb (expr.end - expr.start) 0 z in let x = new_means (omega arith) in rw (x, size, y))

    pub env_more : env_in s r ≡ record { name = part s name.start name.end; tree = t } ∷ env_in s a
    unfolding env_of
    env_more =
        let e = env_before in
        let u = new_tree in
        let names = m.table.name_start.here in
        let lens = m.table.name_len.here in
        ap (env_of s (srcs r)) (m.table.count ∙ add-one a.table.count) ∙ cc

    module _ (o : name.start ≤ name.end) (h : name.end ≤ length s) (e : w ≡ part s name.start name.end) where
      stands_new : InText s (srcs r) a.table.count
      stands_new = record {
        name = omega (arith, m.table.name_start.here, m.table.name_len.here);
        tag = rw (m.table.name_start.here, m.table.name_len.here) (m.values.tag.here ∙ ap tag_of e);
        inside = omega (arith, m.table.expr_start.here, m.table.expr_len.here, g.ordered, g.inside);
        means = λ p. new_means (omega (arith, m.table.expr_len.here)) ∙ ap is (sym new_tree);
      }

      pub stand_more : AllInText s (srcs a) a.table.count → AllInText s (srcs r) r.table.count
      stand_more q i l =
          by_eqb i a.table.count
          (λ q'. subst (λ (j : ℕ). InText s (srcs r) j) (sym q') stands_new)
          (λ q'. stand_same s (srcs a) s (srcs r) (omega arith) a.table.count same_more q i (omega (arith, m.table.count)))
