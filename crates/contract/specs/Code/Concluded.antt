-- What the code's answer says: the tree that is accepted, or the refusal.
use Rattle.std.specs.Prelude.{ℕ, ◌≤◌, ◌≡◌, List, Option, Some, None, Result, Ok, Err, cond, eqb, length}
use Rattle.source.specs.declared.function.Places.{Places}
use Rattle.source.specs.Function.{function_of}
use Rattle.grammar.specs.Tree.{Tree}
use Rattle.numbered.specs.declared.Numbered.{Numbered}
use Rattle.base.specs.Outcome.{Outcome, is, refused, and_then}
use Rattle.contract.specs.declared.CheckedContract.{CheckedContract}
use Rattle.scope.specs.declared.refusal.AssembleError.{AssembleError}
use Rattle.scope.specs.declared.refusal.AssembleError.TheVariants.{NoReturn, NoValue, NotExpected}
use Rattle.scope.specs.declared.state.Returned.{Returned}
use Rattle.scope.specs.declared.state.TableState as Code
use Rattle.scope.specs.Scope.{Scope}
use Rattle.scope.specs.Numbers.{assemble_error_numbered}
use Rattle.body.specs.Code.LastReturn.{last_return, place_of}
use Rattle.scope.specs.Code.Held.{ReturnIs, Represents}
use Rattle.contract.specs.Assembled.{body_read, returned}

-- the contract's body was read, and a is what it has come to
pub record BodyReached (s vector : List ℕ) (a : Code.TableState) : Type 0 where
  pub places : Places
  pub found : function_of s ≡ Ok places
  pub st : Scope
  pub read : body_read s vector places ≡ is st
  pub represents : Represents s a st
  pub place : place_of a.last ≡ last_return s places

-- the bindings and the last return that are accepted, as the state that they come from
abbrev pub state_of : CheckedContract → Code.TableState
state_of r = record { table = r.table; values = r.values; last = Some r.returned }

-- the last return means the tree t, which is accepted
pub record Accepts (s vector : List ℕ) (o : Outcome Numbered (ℕ × Tree)) (r : CheckedContract) : Type 0 where
  pub reached : BodyReached s vector (state_of r)
  pub t : Tree
  pub last : reached.st.last ≡ Some t
  pub returned : ReturnIs s r.table r.values r.returned t
  pub accepts : o ≡ is (r.expected, t)

abbrev pub ConcludesBy : List ℕ → List ℕ → Outcome Numbered (ℕ × Tree) → Result CheckedContract AssembleError → Type 0
ConcludesBy s vector o (Ok r) = Accepts s vector o r
ConcludesBy s vector o (Err why) = o ≡ refused (assemble_error_numbered why)

-- the answer x says o of the contract s and its vector: it holds the tree that is accepted, or the refusal
pub record Concludes (s vector : List ℕ) (o : Outcome Numbered (ℕ × Tree)) (x : Result CheckedContract AssembleError) : Type 0 where
  pub by : ConcludesBy s vector o x

-- what the body's last return makes of it
abbrev pub concluded : ℕ → Outcome Numbered Scope → Outcome Numbered (ℕ × Tree)
concluded expected o = and_then o (λ st. returned expected st.last)

-- the last return, if it has the expected value
abbrev pub judged_value : Returned → ℕ → Option ℕ → Result Returned AssembleError
judged_value l expected None = Err NoValue
judged_value l expected (Some n) = cond (eqb n expected) (Ok l) (Err NotExpected)

abbrev pub judged : Option Returned → ℕ → Result Returned AssembleError
judged None expected = Err NoReturn
judged (Some l) expected = judged_value l expected l.read.value

-- where the contract's function stands
pub record Located (s : List ℕ) (p : Places) : Type 0 where
  pub short : length s ≤ 65536
  pub found : function_of s ≡ Ok p
