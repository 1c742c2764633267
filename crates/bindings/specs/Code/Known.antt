-- What a name means among the first bindings of a table.
use Rattle.std.specs.Prelude.{ℕ, ◌≤◌, List, Bool, Option}
use Rattle.bindings.specs.declared.names.Known.{Known}
use Rattle.bindings.specs.Code.Table.{Columns, columns_of, found, has_name}

-- no more than the arrays hold
abbrev pub Few : Known → Type 0
Few k = k.count ≤ 256

abbrev pub known_columns : Known → Columns
known_columns k =
    let b = k.table.now in
    let v = k.values.now in
    columns_of k.count b.name_start b.name_len v.tag b.k b.p v.value v.none v.len

-- the newest binding that has a name
abbrev pub known_found : Known → List ℕ → Option ℕ
known_found k w = found k.count k.text.now k.table.now.name_start k.table.now.name_len k.values.now.tag w

-- whether binding i has a name
abbrev pub known_name : Known → ℕ → List ℕ → Bool
known_name k i w = has_name k.text.now k.table.now.name_start k.table.now.name_len k.values.now.tag i w
