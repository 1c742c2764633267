-- One more binding in the table.
use Rattle.std.specs.Prelude.{ℕ, ◌+◌, slice_set, unwrap_or, is_none}
use Rattle.bindings.specs.declared.Bindings.{Bindings}
use Rattle.bindings.specs.declared.Values.{Values}
use Rattle.bindings.specs.declared.Row.{Row}

-- the table with a row behind its bindings
abbrev pub table_with : Bindings → Row → Bindings
table_with t x = record {
  name_start = slice_set t.name_start t.count x.name_start;
  name_len = slice_set t.name_len t.count x.name_len;
  expr_start = slice_set t.expr_start t.count x.expr_start;
  expr_len = slice_set t.expr_len t.count x.expr_len;
  k = slice_set t.k t.count x.k;
  p = slice_set t.p t.count x.p;
  count = t.count + 1;
}

-- what stands beside the table, with the row of binding i
abbrev pub values_with : Values → ℕ → Row → Values
values_with v i x = record {
  value = slice_set v.value i (unwrap_or x.value 0);
  none = slice_set v.none i (is_none x.value);
  len = slice_set v.len i x.len;
  tag = slice_set v.tag i x.tag;
}
