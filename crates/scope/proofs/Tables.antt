-- Laws of what a table holds: in a longer text, and with one binding more.
use Rattle.std.specs.Prelude.{Option, Some, None, is_none}
use Rattle.std.specs.Option.{unwrap_or}
use Prim.Native.Nat.{ℕ, zero, suc, ◌+◌, ◌<◌, ◌≤◌}
use mathlib.Core.Path.{◌≡◌, refl, sym, ap, subst, ◌∙◌}
use mathlib.Core.List.{List, [], ◌∷◌}
use native.Mathlib.Numerals.{add-one}
use native.Mathlib.Omega.{arith}
use lib.ListN.{length, take, drop}
use lib.Seq.{length-take-le}
use Rattle.base.proofs.Parts.{take-drop-take}
use Rattle.base.specs.declared.span.Span.{Span}
use Rattle.figures.specs.declared.Figures.{Figures}
use Rattle.grammar.specs.Tree.{Tree, num, bin, k_of, p_of}
use Rattle.grammar.specs.Parse.{Binding, Env}
use Rattle.figures.specs.Code.Figures.{FiguresOf}
use Rattle.bindings.specs.Code.Table.{Columns, columns, value_unless_none, Entry, entry_at, tag_of, RowFor, RowsFor, TableFor}
use Rattle.scope.specs.declared.state.TableState.{TableState}
use Rattle.scope.specs.Part.{part}
use Rattle.scope.specs.Code.Stored.{More}

module _ (s : List ℕ) (c : Columns) where
  told_length : (n : ℕ) (env : Env) → RowsFor s c n env → length env ≡ n
  told_length zero [] h = refl
  told_length zero (b ∷ env) h = absurd h
  told_length (suc n) [] h = absurd h
  told_length (suc n) (b ∷ env) h = ap suc (told_length n env h.1)

pub holds_length : {s : List ℕ} {c : Columns} {env : Env} → TableFor s c env → length env ≡ c.count
holds_length {s} {c} {env} h = told_length s c c.count env h.told

-- the names stand in the text before a place, so also in the text before a later one
module _ (s : List ℕ) (i e : ℕ) (h : i ≤ e) (k : e ≤ length s) where
  pub part_take : (start len : ℕ) → start + len ≤ length (take i s) → take len (drop start (take i s)) ≡ take len (drop start s)
  part_take start len g = take-drop-take s (take i s) 0 i start len start refl g (omega arith)

  pub later : (start len : ℕ) → start + len ≤ length (take i s) → take len (drop start (take i s)) ≡ take len (drop start (take e s))
  later start len g =
      let m = length-take-le i s (omega arith) in
      let n = length-take-le e s k in
      part_take start len g ∙ sym (take-drop-take s (take e s) 0 e start len start refl (omega arith) (omega arith))

  tells_later : {x : Entry} {b : Binding} → RowFor (take i s) x b → RowFor (take e s) x b
  tells_later {x} t =
      let m = length-take-le i s (omega arith) in
      let n = length-take-le e s k in
      record {
        inside = let g = t.inside in omega arith;
        name = t.name ∙ later x.start x.len t.inside;
        tag = t.tag;
        k = t.k;
        p = t.p;
        value = t.value;
        len = t.len;
        short = t.short;
      }

  told_later : (c : Columns) (n : ℕ) (env : Env) → RowsFor (take i s) c n env → RowsFor (take e s) c n env
  told_later c zero [] t = tt
  told_later c zero (b ∷ env) t = absurd t
  told_later c (suc n) [] t = absurd t
  told_later c (suc n) (b ∷ env) t = (tells_later t.0, told_later c n env t.1)

  pub holds_later : {c : Columns} {env : Env} → TableFor (take i s) c env → TableFor (take e s) c env
  holds_later {c} {env} t = record { room = t.room; told = told_later c c.count env t.told }

unless_value : (v : Option ℕ) → value_unless_none (is_none v) (unwrap_or v 0) ≡ v
unless_value (Some n) = refl
unless_value None = refl

abbrev cols : TableState → Columns
cols a = columns a.table a.values

module _ (s : List ℕ) {a r : TableState} {name expr : Span} {v : Figures} {w : List ℕ} (m : More a name expr v w r) where
  tells_still : {i : ℕ} {b : Binding} → i < a.table.count → RowFor s (entry_at (cols a) i) b → RowFor s (entry_at (cols r) i) b
  tells_still {i} l t =
      let d : i ≡ a.table.count → ⊥ = λ e. omega arith in
      let names = m.table.name_start.other i d in
      let lens = m.table.name_len.other i d in
      record {
        inside = rw (names, lens) t.inside;
        name = rw (names, lens) t.name;
        tag = m.values.tag.other i d ∙ t.tag;
        k = m.table.ks.other i d ∙ t.k;
        p = m.table.ps.other i d ∙ t.p;
        value = rw (m.values.none.other i d, m.values.value.other i d) t.value;
        len = m.values.len.other i d ∙ t.len;
        short = t.short;
      }

  told_still : (i : ℕ) (env : Env) → i ≤ a.table.count → RowsFor s (cols a) i env → RowsFor s (cols r) i env
  told_still zero [] l t = tt
  told_still zero (b ∷ env) l t = absurd t
  told_still (suc i) [] l t = absurd t
  told_still (suc i) (b ∷ env) l t = (tells_still (omega arith) t.0, told_still i env (omega arith) t.1)

  module _ (o : name.start ≤ name.end) (h : name.end ≤ length s) (e : w ≡ part s name.start name.end) {t : Tree} (f : FiguresOf t v) where
    tells_new : RowFor s (entry_at (cols r) a.table.count) (record { name = part s name.start name.end; tree = t })
    tells_new =
        let names = m.table.name_start.here in
        let lens = m.table.name_len.here in
        record {
          inside = rw (names, lens) (omega arith);
          name = rw (names, lens) refl;
          tag = m.values.tag.here ∙ ap tag_of e;
          k = m.table.ks.here ∙ f.k;
          p = m.table.ps.here ∙ f.p;
          value = rw (m.values.none.here, m.values.value.here) (unless_value v.value ∙ f.value);
          len = m.values.len.here ∙ f.len;
          short = f.short;
        }

    pub holds_more : {env : Env} → a.table.count < 256 → TableFor s (cols a) env → TableFor s (cols r) (record { name = part s name.start name.end; tree = t } ∷ env)
    holds_more {env} l g = record {
      room = let c = m.table.count in omega arith;
      told = subst (λ (i : ℕ). RowsFor s (cols r) i (record { name = part s name.start name.end; tree = t } ∷ env)) (sym (m.table.count ∙ add-one a.table.count)) (tells_new, told_still a.table.count env (omega arith) g.told);
    }

-- p is at most k
pub p_at_most : (t : Tree) → p_of t ≤ k_of t
p_at_most (num n) = omega arith
p_at_most (bin op l r) = let g = p_at_most l in let h = p_at_most r in let k = k_positive l in omega (arith, k)
  where
    k_positive : (u : Tree) → 0 < k_of u
    k_positive (num n) = omega arith
    k_positive (bin o x y) = let a = k_positive x in omega arith
