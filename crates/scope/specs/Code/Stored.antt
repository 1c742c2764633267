-- How a state is stored: what one more binding changes in the table and beside it.
use Rattle.std.specs.Prelude.{ℕ, ◌+◌, ◌-◌, ◌^◌, ◌<◌, ◌≤◌, ◌≡◌, List, false, None, Some, is_none, Result, Ok, Err, length, get_or, replicate}
use Rattle.std.specs.Option.{unwrap_or}
use Rattle.base.specs.declared.span.Span.{Span}
use Rattle.bindings.specs.declared.Bindings.{Bindings}
use Rattle.bindings.specs.declared.Values.{Values}
use Rattle.bindings.specs.declared.Row.{Row}
use Rattle.bindings.specs.Code.Rows.{table_with, values_with}
use Rattle.figures.specs.declared.Figures.{Figures}
use Rattle.bindings.specs.Code.Table.{tag_of}
use Rattle.scope.specs.declared.refusal.AssembleError.{AssembleError}
use Rattle.scope.specs.declared.refusal.AssembleError.TheVariants.{TooManyBindings}
use Rattle.scope.specs.declared.state.TableState.{TableState}

-- no binding, no return; every array is zero
abbrev pub no_bindings : Bindings
no_bindings = record { name_start = replicate 256 0; name_len = replicate 256 0; expr_start = replicate 256 0; expr_len = replicate 256 0; k = replicate 256 0; p = replicate 256 0; count = 0 }

abbrev pub no_values : Values
no_values = record { value = replicate 256 0; none = replicate 256 false; len = replicate 256 0; tag = replicate 256 0 }

abbrev pub nothing_yet : TableState
nothing_yet = record { table = no_bindings; values = no_values; last = None }

abbrev pub returning : TableState → Span → Figures → TableState
returning a expr v = record { table = a.table; values = a.values; last = Some (record { expr = expr; count = a.table.count; read = v }) }

-- offsets and figures that fit the table's types
pub record SpanFits (p : Span) : Type 0 where
  pub ordered : p.start ≤ p.end
  pub fits : p.end < 65536

pub record FiguresFit (v : Figures) : Type 0 where
  pub k : v.k < 65536
  pub p : v.p < 65536
  pub len : v.len < 2 ^ 32

-- every array has its 256 entries, as its type says
pub record Full (t : Bindings) (v : Values) : Type 0 where
  pub name_start : length t.name_start ≡ 256
  pub name_len : length t.name_len ≡ 256
  pub expr_start : length t.expr_start ≡ 256
  pub expr_len : length t.expr_len ≡ 256
  pub ks : length t.k ≡ 256
  pub ps : length t.p ≡ 256
  pub value : length v.value ≡ 256
  pub none : length v.none ≡ 256
  pub len : length v.len ≡ 256
  pub tag : length v.tag ≡ 256

-- v stands at i, and all else is as before
pub record Set {A : Type 0} (d : A) (before : List A) (i : ℕ) (v : A) (after : List A) : Type 0 where
  pub here : get_or after i d ≡ v
  pub other : (j : ℕ) → (j ≡ i → ⊥) → get_or after j d ≡ get_or before j d

pub record Put (t : Bindings) (name expr : Span) (k p : ℕ) (r : Bindings) : Type 0 where
  pub count : r.count ≡ t.count + 1
  pub name_start : Set 0 t.name_start t.count name.start r.name_start
  pub name_len : Set 0 t.name_len t.count (name.end - name.start) r.name_len
  pub expr_start : Set 0 t.expr_start t.count expr.start r.expr_start
  pub expr_len : Set 0 t.expr_len t.count (expr.end - expr.start) r.expr_len
  pub ks : Set 0 t.k t.count k r.k
  pub ps : Set 0 t.p t.count p r.p

-- one binding, with the name w, as the arrays hold it
abbrev pub row_of : Span → Span → Figures → List ℕ → Row
row_of name expr v w = record {
  name_start = name.start;
  name_len = name.end - name.start;
  expr_start = expr.start;
  expr_len = expr.end - expr.start;
  k = v.k;
  p = v.p;
  value = v.value;
  len = v.len;
  tag = tag_of w;
}

-- a row behind the bindings that are there
abbrev pub with_row : TableState → Row → TableState
with_row a x = record { table = table_with a.table x; values = values_with a.values a.table.count x; last = a.last }

-- the answer x and the state r after it: a 257th binding is refused
pub record Binds (a : TableState) (name expr : Span) (v : Figures) (w : List ℕ) (r : TableState) (x : Result (Unit {0}) AssembleError) : Type 0 where
  pub full : 256 ≤ a.table.count → (x ≡ Err TooManyBindings) × (r ≡ a)
  pub more : a.table.count < 256 → (x ≡ Ok tt) × (r ≡ with_row a (row_of name expr v w))

-- of a binding with the name w
pub record PutValue (t : Values) (i : ℕ) (v : Figures) (w : List ℕ) (r : Values) : Type 0 where
  pub value : Set 0 t.value i (unwrap_or v.value 0) r.value
  pub none : Set false t.none i (is_none v.value) r.none
  pub len : Set 0 t.len i v.len r.len
  pub tag : Set 0 t.tag i (tag_of w) r.tag

-- one more binding than a has, with the name w
pub record More (a : TableState) (name expr : Span) (v : Figures) (w : List ℕ) (r : TableState) : Type 0 where
  pub table : Put a.table name expr v.k v.p r.table
  pub values : PutValue a.values a.table.count v w r.values
  pub last : r.last ≡ a.last
