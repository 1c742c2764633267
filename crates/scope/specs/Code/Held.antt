-- What the code's state says of an assembly. The names and expressions of its bindings stand in the text s.
use Rattle.scope.specs.declared.refusal.AssembleError.{AssembleError}
use Rattle.std.specs.Prelude.{ℕ, ◌<◌, ◌≤◌, ◌≡◌, List, Option, Some, None, Result, Ok, Err, length}
use Rattle.numbered.specs.declared.Numbered.{Numbered}
use Rattle.base.specs.Outcome.{Outcome, is, refused}
use Rattle.grammar.specs.Tree.{Tree}
use Rattle.grammar.specs.Parse.{meaning}
use Rattle.figures.specs.Code.Figures.{FiguresOf}
use Rattle.bindings.specs.declared.Bindings.{Bindings}
use Rattle.bindings.specs.declared.Values.{Values}
use Rattle.bindings.specs.Code.Table.{columns, TableFor}
use Rattle.bindings.specs.Code.Source.{sources, env_of, AllInText}
use Rattle.scope.specs.declared.state.Returned.{Returned}
use Rattle.scope.specs.declared.state.TableState as Code
use Rattle.scope.specs.Part.{part}
use Rattle.scope.specs.Code.Stored.{Full}
use Rattle.scope.specs.Scope.{Scope}
use Rattle.scope.specs.Numbers.{assemble_error_numbered}

-- the last return's expression stands in the text, and means t among the bindings made before its line
pub record ReturnIs (s : List ℕ) (table : Bindings) (values : Values) (l : Returned) (t : Tree) : Type 0 where
  pub figures : FiguresOf t l.read
  pub few : l.count ≤ table.count
  pub ordered : l.expr.start ≤ l.expr.end
  pub inside : l.expr.end ≤ length s
  pub means : meaning (env_of s (sources table values) l.count) (part s l.expr.start l.expr.end) ≡ is t

abbrev pub LastIs : List ℕ → Bindings → Values → Option Returned → Option Tree → Type 0
LastIs s table values None None = Unit {0}
LastIs s table values None (Some t) = ⊥
LastIs s table values (Some l) None = ⊥
LastIs s table values (Some l) (Some t) = ReturnIs s table values l t

pub record Represents (s : List ℕ) (a : Code.TableState) (st : Scope) : Type 0 where
  pub full : Full a.table a.values
  pub holds : TableFor s (columns a.table a.values) st.env
  pub stand : AllInText s (sources a.table a.values) a.table.count
  pub sources : st.env ≡ env_of s (sources a.table a.values) a.table.count
  pub last : LastIs s a.table a.values a.last st.last

-- a represents a state of the definition
pub record Represented (s : List ℕ) (a : Code.TableState) : Type 0 where
  pub st : Scope
  pub represents : Represents s a st

abbrev pub SimulatesBy : Result (Unit {0}) AssembleError → List ℕ → Code.TableState → Outcome Numbered Scope → (Scope → Outcome Numbered Scope) → Type 0
SimulatesBy (Ok u) s a whole rest = (st : Scope) × (Represents s a st × (whole ≡ rest st))
SimulatesBy (Err why) s a whole rest = whole ≡ refused (assemble_error_numbered why)

-- a simulation with the answer x: the code's state a represents one of the definition, from which the rest gives the whole; or x is the
-- refusal of the whole, and says nothing of a
pub record Simulates (s : List ℕ) (a : Code.TableState) (x : Result (Unit {0}) AssembleError) (whole : Outcome Numbered Scope) (rest : Scope → Outcome Numbered Scope) : Type 0 where
  pub by : SimulatesBy x s a whole rest

-- one step of the simulation: r represents what f makes of a, or x refuses as f does
pub record SimulatesStep (s : List ℕ) (a : Code.TableState) (f : Scope → Outcome Numbered Scope) (t : List ℕ) (r : Code.TableState) (x : Result (Unit {0}) AssembleError) : Type 0 where
  pub leads : (st : Scope) → Represents s a st → Simulates t r x (f st) is

-- one step of the simulation whose answer has the state: it represents what f makes of a, or the answer refuses as f does
abbrev pub SimulatesTo : List ℕ → Code.TableState → (Scope → Outcome Numbered Scope) → List ℕ → Result Code.TableState AssembleError → Type 0
SimulatesTo s a f t (Ok r) = SimulatesStep s a f t r (Ok tt)
SimulatesTo s a f t (Err why) = SimulatesStep s a f t a (Err why)

-- a part of a contract, whose offsets fit the table
pub record Within (s : List ℕ) (start end : ℕ) : Type 0 where
  pub short : length s ≤ 65536
  pub ordered : start ≤ end
  pub fits : end < 65536
  pub inside : end ≤ length s

abbrev pub keyed_as : Result ℕ AssembleError → Outcome Numbered ℕ
keyed_as (Ok n) = is n
keyed_as (Err why) = refused (assemble_error_numbered why)
