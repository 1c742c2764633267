-- Where the expression of a body's last `return ` stands, how many bindings were made before its line, and where its last token ends.
use Rattle.figures.specs.declared.Figures.{Figures}
use Rattle.scope.specs.declared.refusal.AssembleError.{AssembleError}
use Rattle.scope.specs.declared.state.Returned.{Returned}
use Rattle.std.specs.Prelude.{ℕ, ◌+◌, ◌≡◌, List, [], ◌∷◌, Option, Some, None, Result, Ok, Err, IfOk, length, take}
use Rattle.lines.specs.Lines.{lines}
use Rattle.lines.specs.Cursor.{line_from}
use Rattle.source.specs.declared.function.Places.{Places}
use Rattle.source.specs.Parameters.{parameters}
use Rattle.token.specs.Code.Places.{last_end}
use Rattle.body.specs.declared.statement.StatementSpans.{StatementSpans}
use Rattle.body.specs.declared.statement.StatementSpans.TheVariants.{Skipped, NoEquals, Let, Return}
use Rattle.scope.specs.declared.state.TableState.{TableState}
use Rattle.scope.specs.Part.{part}
use Rattle.body.specs.Code.Places.{statement_at}

pub record Place : Type 0 where
  pub start : ℕ
  pub end : ℕ
  pub count : ℕ
  pub next : ℕ

-- how many bindings were made, and the last return's place, if any
pub record Met : Type 0 where
  pub count : ℕ
  pub last : Option Place

abbrev pub meeting : List ℕ → Met → StatementSpans → Met
meeting s m Skipped = m
meeting s m NoEquals = m
meeting s m (Let name expr) = record { count = m.count + 1; last = m.last }
meeting s m (Return expr) = record { count = m.count; last = Some (record { start = expr.start; end = expr.end; count = m.count; next = last_end (take expr.end s) }) }

-- the lines of the text before `end`, the first of which starts at an offset
unfoldable pub lines_met : List ℕ → ℕ → Met → ℕ → List (List ℕ) → Met
lines_met s end m at [] = m
lines_met s end m at (t ∷ rest) = lines_met s end (meeting s m (statement_at s at (line_from (take end s) at).text.end)) (line_from (take end s) at).next rest

abbrev pub body_met : List ℕ → ℕ → ℕ → Met → Met
body_met s start end m = lines_met s end m start (lines (part s start end))

-- the parameters were bound
abbrev pub last_return : List ℕ → Places → Option Place
last_return s p = (body_met s p.body.start p.body.end (record { count = length (parameters (part s p.params.start p.params.end)); last = None })).last

-- what the code's state says of it
abbrev pub place_of : Option Returned → Option Place
place_of None = None
place_of (Some l) = Some (record { start = l.expr.start; end = l.expr.end; count = l.count; next = l.read.next })

abbrev pub met_of : TableState → Met
met_of a = record { count = a.table.count; last = place_of a.last }

-- an expression of a text is read up to the end of the text's last token
abbrev pub ReadToLast : List ℕ → Result Figures AssembleError → Type 0
ReadToLast s (Ok v) = v.next ≡ last_end s
ReadToLast s (Err why) = Unit {0}

-- r is what a line makes of a, unless the answer x refuses
pub record MeetsLine (s : List ℕ) (start end : ℕ) (a r : TableState) (x : Result (Unit {0}) AssembleError) : Type 0 where
  pub is : x ≡ Ok tt → met_of r ≡ meeting s (met_of a) (statement_at s start end)

-- the answer x is what the body makes of a, unless it refuses
pub record ReadsBody (s : List ℕ) (start end : ℕ) (a : TableState) (x : Result TableState AssembleError) : Type 0 where
  pub is : IfOk x (λ r. met_of r ≡ body_met s start end (met_of a))

-- the last return stands where the contract's does, unless the answer x refuses
pub record Standing (s : List ℕ) (p : Places) (a : TableState) (x : Result (Unit {0}) AssembleError) : Type 0 where
  pub is : x ≡ Ok tt → place_of a.last ≡ last_return s p
