-- What an accepted contract and a short stem lead to.
use Rattle.std.specs.Prelude.{Result}
use Rattle.assembler.specs.declared.Assembly.{Assembly}
use Rattle.scope.specs.declared.refusal.AssembleError.{AssembleError}
use Rattle.std.specs.Prelude.{ℕ, ◌≤◌, ◌≡◌, List, true, length}
use Rattle.contract.specs.declared.CheckedContract.{CheckedContract}
use Rattle.numbered.specs.declared.Numbered.{Numbered}
use Rattle.base.specs.Outcome.{Outcome}
use Rattle.grammar.specs.Tree.{Tree}
use Rattle.contract.specs.Code.Concluded.{Accepts}
use Rattle.contract.specs.Output.{stem_fits, with_stem}
use Rattle.assembler.specs.Answers.{Assembles}

-- the contract s is accepted, and the stem is short
pub record Ready (s stem : List ℕ) (a : CheckedContract) : Type 0 where
  pub short : length stem ≤ 255
  pub vector : List ℕ
  pub o : Outcome Numbered (ℕ × Tree)
  pub accepts : Accepts s vector o a

-- what is accepted is written where the stem fits
pub record Writes (s stem : List ℕ) (a : CheckedContract) (out after : List ℕ) (r : Result Assembly AssembleError) : Type 0 where
  pub is : (vector : List ℕ) (o : Outcome Numbered (ℕ × Tree)) → Accepts s vector o a → stem_fits stem ≡ true → Assembles (with_stem o stem (length out)) out after r
