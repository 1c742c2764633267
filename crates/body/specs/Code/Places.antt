-- Where the parts of a statement stand in the contract.
use Rattle.std.specs.Prelude.{ℕ, ◌+◌, ◌≤◌, ◌≡◌, List, cond}
use Rattle.base.specs.Ascii.{ascii}
use Rattle.search.specs.First.{prefix_of, first_at}
use Rattle.source.specs.Found.{found_or}
use Rattle.source.specs.Code.Cursor.{trimmed_span}
use Rattle.base.specs.declared.span.Span.{Span}
use Rattle.body.specs.declared.statement.StatementSpans.{StatementSpans}
use Rattle.body.specs.declared.statement.StatementSpans.TheVariants.{Skipped, NoEquals, Let, Return}
use Rattle.scope.specs.Part.{part}
use Rattle.body.specs.Statement as Said

-- the trimmed text of the part of s from one offset to another
abbrev pub trimmed_in : List ℕ → ℕ → ℕ → Span
trimmed_in s start end = let span = trimmed_span (part s start end) in record { start = start + span.start; end = start + span.end }

-- what follows `let `
abbrev pub let_at : List ℕ → ℕ → ℕ → StatementSpans
let_at s start end = found_or (first_at (ascii "=") (part s start end) 0) NoEquals (λ i. Let (trimmed_in s start (start + i)) (trimmed_in s (start + i + 1) end))

-- a line that is trimmed
abbrev pub trimmed_at : List ℕ → ℕ → ℕ → StatementSpans
trimmed_at s start end = cond (prefix_of (ascii "let ") (part s start end)) (let_at s (start + 4) end) (cond (prefix_of (ascii "return ") (part s start end)) (Return (trimmed_in s (start + 7) end)) Skipped)

abbrev pub statement_at : List ℕ → ℕ → ℕ → StatementSpans
statement_at s start end = let line = trimmed_in s start end in trimmed_at s line.start line.end

-- the texts that stand at the offsets of a statement
abbrev pub texts : List ℕ → StatementSpans → Said.Statement
texts s Skipped = Said.skipped
texts s NoEquals = Said.no_equals
texts s (Let name expr) = Said.binds (part s name.start name.end) (part s expr.start expr.end)
texts s (Return expr) = Said.returns (part s expr.start expr.end)

-- the span p lies between two offsets
pub record Inside (start end : ℕ) (p : Span) : Type 0 where
  pub low : start ≤ p.start
  pub ordered : p.start ≤ p.end
  pub high : p.end ≤ end

abbrev pub AllInside : ℕ → ℕ → StatementSpans → Type 0
AllInside start end Skipped = Unit {0}
AllInside start end NoEquals = Unit {0}
AllInside start end (Let name expr) = Inside start end name × (Inside start end expr × (name.end ≤ expr.start))
AllInside start end (Return expr) = Inside start end expr

-- the statement r of a line whose text is t: its spans lie between two offsets, and hold the texts that the line says
pub record StatementStands (s : List ℕ) (start end : ℕ) (t : List ℕ) (r : StatementSpans) : Type 0 where
  pub inside : AllInside start end r
  pub says : texts s r ≡ Said.statement t
