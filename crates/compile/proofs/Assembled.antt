-- What assembly writes stands in its buffer.
use Rattle.std.specs.Prelude.{Result, Ok}
use Prim.Native.Nat.{ℕ, ◌≤◌}
use native.Mathlib.Omega.{arith}
use mathlib.Core.Path.{◌≡◌, sym, ap, ◌∙◌}
use mathlib.Core.List.{List}
use lib.ListN.{length, drop, length-append}
use Rattle.contract.specs.Output.{assembled}
use Rattle.scope.specs.declared.refusal.AssembleError.{AssembleError}
use Rattle.assembler.specs.declared.Assembly.{Assembly}
use Rattle.assembler.specs.Answers.{assembly_answer_numbered, Assembles}
use Rattle.contract.proofs.Answers.{tells}

module _ (contract vector stem out : List ℕ) where
  pub within : {o : List ℕ} {r : Result Assembly AssembleError} {y : Assembly} → Assembles (assembled contract vector stem (length out)) out o r → r ≡ Ok y → y.written ≤ length o
  within a e =
      let text = (assembled contract vector stem (length out)).text in
      omega (arith, (tells contract vector stem (length out) (sym a.answer ∙ ap assembly_answer_numbered e)).size, ap length a.buffer, length-append text (drop (length text) out))
