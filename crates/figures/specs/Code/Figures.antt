-- The figures of an expression that is read, of a number, and of two that an operator joins.
use Rattle.std.specs.Prelude.{ℕ, Some, ◌≡◌, ◌+◌, ◌*◌, ◌^◌, ◌<◌, ◌≤◌, length, max}
use Rattle.decimal.specs.Decimal.{decimal}
use Rattle.word.specs.Apply.{Binary}
use Rattle.figures.specs.declared.Figures.{Figures}
use Rattle.grammar.specs.Tree.{Tree, applied, value_of, k_of, p_of}
use Rattle.grammar.specs.Code.Lengths.{operator_length, len_of}

-- they are those of the tree t; a line of text has at most 26 bytes, and an operator's at most 4
pub record FiguresOf (t : Tree) (v : Figures) : Type 0 where
  pub k : v.k ≡ k_of t
  pub p : v.p ≡ p_of t
  pub value : v.value ≡ value_of t
  pub len : v.len ≡ len_of t
  pub short : len_of t + 4 ≤ 30 * k_of t

-- those of a number that ends at an offset
abbrev pub of_number : ℕ → ℕ → Figures
of_number n end = record { next = end; k = 1; p = 1; len = 6 + length (decimal n); value = Some n }

-- sums of two such figures fit
pub record SumsFit (v : Figures) : Type 0 where
  pub k : v.k < 2 ^ 62
  pub p : v.p < 2 ^ 62
  pub len : v.len < 2 ^ 62

-- r is what an operator joins v and w to
pub record Joined (op : Binary) (v w r : Figures) : Type 0 where
  pub next : r.next ≡ w.next
  pub k : r.k ≡ v.k + w.k
  pub p : r.p ≡ max v.p (w.p + 1)
  pub value : r.value ≡ applied op v.value w.value
  pub len : r.len ≡ v.len + w.len + operator_length op
