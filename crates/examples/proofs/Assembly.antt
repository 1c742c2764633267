-- An assembly into 4,096 zeros.
use Rattle.std.specs.Prelude.{Result}
use Rattle.assembler.specs.declared.Assembly.{Assembly}
use Rattle.scope.specs.declared.refusal.AssembleError.{AssembleError}
use mathlib.Core.Path.{◌≡◌, ap, subst}
use mathlib.Core.List.{List}
use Prim.Native.Nat.{ℕ}
use lib.ListN.{length}
use Rattle.base.specs.Overwrite.{overwrite}
use Rattle.contract.specs.Output.{assembled}
use Rattle.assembler.specs.Answers.{Assembles}
use Rattle.examples.specs.Runs.{zeros}
use Rattle.examples.specs.Bench.{tally_ops}

pub assembles : (contract vector stem out after : List ℕ) (r : Result Assembly AssembleError) → out ≡ zeros → Assembles (assembled contract vector stem (length out)) out after r → Assembles (assembled contract vector stem 4096) zeros after r
assembles contract vector stem out after r e h = subst (λ (o : List ℕ). Assembles (assembled contract vector stem (length o)) o after r) e h

pub sized : {after : List ℕ} → after ≡ overwrite 0 tally_ops zeros → length after ≡ 4096
sized e = ap length e
