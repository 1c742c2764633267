-- What the code says of the expression of a line, and where it stands.
use Rattle.figures.specs.declared.Figures.{Figures}
use Rattle.scope.specs.declared.refusal.AssembleError.{AssembleError}
use Rattle.std.specs.Prelude.{ℕ, ◌≤◌, ◌≡◌, List, Result, Ok, Err}
use Rattle.numbered.specs.declared.Numbered.{Numbered}
use Rattle.base.specs.Outcome.{Outcome, is, refused}
use Rattle.base.specs.declared.span.Span.{Span}
use Rattle.grammar.specs.Tree.{Tree, k_of}
use Rattle.grammar.specs.Parse.{Env, meaning}
use Rattle.figures.specs.Code.Figures.{FiguresOf}
use Rattle.bindings.specs.Code.Table.{Columns, TableFor}
use Rattle.scope.specs.Scope.{Scope}
use Rattle.body.specs.Body.{tree_or}
use Rattle.scope.specs.Numbers.{assemble_error_numbered}
use Rattle.scope.specs.Code.Held.{Within}

-- the figures of an expression on a line, whose k is 32,768 at most; or its refusal
abbrev pub Checks : Outcome Numbered Tree → ℕ → Result Figures AssembleError → Type 0
Checks m line (Ok v) = (t : Tree) × ((m ≡ is t) × ((k_of t ≤ 32768) × FiguresOf t v))
Checks m line (Err why) = (follows : Tree → Outcome Numbered Scope) → tree_or m line follows ≡ refused (assemble_error_numbered why)

-- in every environment that the table holds
pub record ChecksAll (s : List ℕ) (c : Columns) (line : ℕ) (t : List ℕ) (r : Result Figures AssembleError) : Type 0 where
  pub is : (env : Env) → TableFor s c env → Checks (meaning env t) line r

-- a name and an expression behind it
pub record LetWithin (s : List ℕ) (name expr : Span) : Type 0 where
  pub ordered : name.start ≤ name.end
  pub between : name.end ≤ expr.start
  pub within : Within s expr.start expr.end
