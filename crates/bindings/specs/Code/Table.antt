-- How a table of bindings holds an environment.
use Rattle.std.specs.Prelude.{Option, Some, None}
use Rattle.std.specs.Prelude.{ℕ, zero, suc, ◌+◌, ◌-◌, ◌*◌, ◌%◌, ◌<◌, ◌≤◌, min, ◌≡◌, List, [], ◌∷◌, Bool, true, false, ◌&&◌, eqb, leb, length, get_or, take, drop}
use Rattle.base.specs.Equal.{equal}
use Rattle.bindings.specs.declared.Bindings.{Bindings}
use Rattle.bindings.specs.declared.Values.{Values}
use Rattle.grammar.specs.Tree.{value_of, k_of, p_of}
use Rattle.grammar.specs.Code.Lengths.{len_of}
use Rattle.grammar.specs.Parse.{Binding, Env}

-- the tag of a name: a byte made of its first byte and its last two, which most names differ in
abbrev pub mix : ℕ → ℕ → ℕ → ℕ
mix first before last = (3 * first + 16 * before + last) % 256

unfoldable pub tag_of : List ℕ → ℕ
tag_of w = mix (get_or w 0 0) (get_or w (length w - 2) 0) (get_or w (length w - 1) 0)

-- what the parser reads of a table: a list for each of a binding's numbers, oldest first
pub record Columns : Type 0 where
  pub count : ℕ
  pub names : List ℕ
  pub lens : List ℕ
  pub tags : List ℕ
  pub ks : List ℕ
  pub ps : List ℕ
  pub values : List ℕ
  pub nones : List Bool
  pub sizes : List ℕ

abbrev pub columns_of : ℕ → List ℕ → List ℕ → List ℕ → List ℕ → List ℕ → List ℕ → List Bool → List ℕ → Columns
columns_of n names lens tags ks ps values nones sizes = record { count = n; names = names; lens = lens; tags = tags; ks = ks; ps = ps; values = values; nones = nones; sizes = sizes }

abbrev pub columns : Bindings → Values → Columns
columns b v = columns_of b.count b.name_start b.name_len v.tag b.k b.p v.value v.none v.len

abbrev pub value_unless_none : Bool → ℕ → Option ℕ
value_unless_none true n = None
value_unless_none false n = Some n

-- what is told of one binding: where its name starts, its length and its tag, k, p, value, whether that is none, the length of its text
pub record Entry : Type 0 where
  pub start : ℕ
  pub len : ℕ
  pub tag : ℕ
  pub k : ℕ
  pub p : ℕ
  pub value : ℕ
  pub none : Bool
  pub size : ℕ

abbrev pub entry_at : Columns → ℕ → Entry
entry_at c i = record { start = get_or c.names i 0; len = get_or c.lens i 0; tag = get_or c.tags i 0; k = get_or c.ks i 0; p = get_or c.ps i 0; value = get_or c.values i 0; none = get_or c.nones i false; size = get_or c.sizes i 0 }

-- an entry tells the binding b: its name stands in the text s, and its figures are those of its tree
pub record RowFor (s : List ℕ) (e : Entry) (b : Binding) : Type 0 where
  pub inside : e.start + e.len ≤ length s
  pub name : b.name ≡ take e.len (drop e.start s)
  pub tag : e.tag ≡ tag_of b.name
  pub k : e.k ≡ k_of b.tree
  pub p : e.p ≡ p_of b.tree
  pub value : value_unless_none e.none e.value ≡ value_of b.tree
  pub len : e.size ≡ len_of b.tree
  pub short : len_of b.tree + 4 ≤ 30 * k_of b.tree

-- the first n bindings, the last of them being the newest
abbrev pub RowsFor : List ℕ → Columns → ℕ → Env → Type 0
RowsFor s c zero [] = Unit {0}
RowsFor s c zero (b ∷ env) = ⊥
RowsFor s c (suc n) [] = ⊥
RowsFor s c (suc n) (b ∷ env) = RowFor s (entry_at c n) b × RowsFor s c n env

-- a count above 256 is taken as 256
abbrev pub at_most256 : ℕ → ℕ
at_most256 n = min n 256

pub record TableFor (s : List ℕ) (c : Columns) (env : Env) : Type 0 where
  pub room : c.count ≤ 256
  pub told : RowsFor s c c.count env

-- whether binding i has the name w
abbrev pub has_name : List ℕ → List ℕ → List ℕ → List ℕ → ℕ → List ℕ → Bool
has_name s names lens tags i w = eqb (get_or tags i 0) (tag_of w) && (leb (get_or names i 0 + get_or lens i 0) (length s) && equal w (take (get_or lens i 0) (drop (get_or names i 0) s)))

-- the newest of the first n bindings that has the name w
unfoldable pub found : ℕ → List ℕ → List ℕ → List ℕ → List ℕ → List ℕ → Option ℕ
found zero s names lens tags w = None
found (suc n) s names lens tags w = elim (has_name s names lens tags n w) [ true ↦ Some n | false ↦ found n s names lens tags w ]

-- of some bindings those from r on all have another tag
pub record Passes (tags : List ℕ) (tag r : ℕ) : Type 0 where
  pub fewer : r ≤ length tags
  pub others : (k : ℕ) → r ≤ k → k < length tags → eqb (get_or tags k 0) tag ≡ false
