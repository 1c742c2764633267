-- Laws of a list in which one place is set, and of the arrays with one row more.
use Prim.Native.Nat.{ℕ, ◌<◌}
use mathlib.Core.Path.{◌≡◌, refl, ap, ◌∙◌}
use mathlib.Core.List.{List}
use Rattle.std.specs.Prelude.{false, is_none, unwrap_or}
use native.Mathlib.Omega.{arith}
use lib.ListN.{length, set, length-set}
use lib.Seq.{get_or-set_same, get_or-set_other}
use Rattle.base.specs.declared.span.Span.{Span}
use Rattle.figures.specs.declared.Figures.{Figures}
use Rattle.scope.specs.declared.state.TableState.{TableState}
use Rattle.bindings.specs.declared.Bindings.{Bindings}
use Rattle.bindings.specs.declared.Values.{Values}
use Rattle.bindings.specs.declared.Row.{Row}
use Rattle.bindings.specs.Code.Rows.{table_with, values_with}
use Rattle.scope.specs.Code.Stored.{Set, Full, row_of, with_row, More}

set_one : {A : Type 0} (d : A) (l : List A) (i : ℕ) {v w : A} → v ≡ w → i < length l → Set d l i w (set l i v)
set_one d l i {v} e h = record { here = get_or-set_same l i v d h ∙ e; other = λ j n. get_or-set_other l i j v d n }

pub full_more : {t : Bindings} {v : Values} → Full t v → (x : Row) → Full (table_with t x) (values_with v t.count x)
full_more f x = record {
  name_start = simp length-set f.name_start;
  name_len = simp length-set f.name_len;
  expr_start = simp length-set f.expr_start;
  expr_len = simp length-set f.expr_len;
  ks = simp length-set f.ks;
  ps = simp length-set f.ps;
  value = simp length-set f.value;
  none = simp length-set f.none;
  len = simp length-set f.len;
  tag = simp length-set f.tag;
}

module _ {a : TableState} (f : Full a.table a.values) where
  pub row_more : {name expr : Span} {r : Figures} {w : List ℕ} {x : Row} → a.table.count < 256 → x ≡ row_of name expr r w → More a name expr r w (with_row a x)
  row_more h e = record {
    table = record {
      count = refl;
      name_start = set_one 0 _ _ (ap (λ (y : Row). y.name_start) e) (omega (arith, f.name_start));
      name_len = set_one 0 _ _ (ap (λ (y : Row). y.name_len) e) (omega (arith, f.name_len));
      expr_start = set_one 0 _ _ (ap (λ (y : Row). y.expr_start) e) (omega (arith, f.expr_start));
      expr_len = set_one 0 _ _ (ap (λ (y : Row). y.expr_len) e) (omega (arith, f.expr_len));
      ks = set_one 0 _ _ (ap (λ (y : Row). y.k) e) (omega (arith, f.ks));
      ps = set_one 0 _ _ (ap (λ (y : Row). y.p) e) (omega (arith, f.ps));
    };
    values = record {
      value = set_one 0 _ _ (ap (λ (y : Row). unwrap_or y.value 0) e) (omega (arith, f.value));
      none = set_one false _ _ (ap (λ (y : Row). is_none y.value) e) (omega (arith, f.none));
      len = set_one 0 _ _ (ap (λ (y : Row). y.len) e) (omega (arith, f.len));
      tag = set_one 0 _ _ (ap (λ (y : Row). y.tag) e) (omega (arith, f.tag));
    };
    last = refl;
  }
