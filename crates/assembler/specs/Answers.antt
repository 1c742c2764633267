-- What a call of assembly answers and leaves in the lent buffer.
use Rattle.std.specs.Prelude.{ℕ, ◌≡◌, List, [], ◌∷◌, Result}
use Rattle.numbered.specs.declared.Numbered.{Numbered}
use Rattle.numbered.specs.Numbered.{carrying, result_numbered}
use Rattle.base.specs.Overwrite.{overwrite}
use Rattle.scope.specs.declared.refusal.AssembleError.{AssembleError}
use Rattle.scope.specs.Numbers.{assemble_error_numbered}
use Rattle.contract.specs.Output as Output
use Rattle.assembler.specs.declared.Assembly.{Assembly}

-- 0, with the bytes written, k, p and the value
abbrev pub assembly_numbered : Assembly → Numbered
assembly_numbered a = carrying 0 (a.written ∷ a.k ∷ a.p ∷ a.value ∷ [])

-- document 01's number of each case, with its values
abbrev pub assembly_answer_numbered : Result Assembly AssembleError → Numbered
assembly_answer_numbered r = result_numbered assembly_numbered assemble_error_numbered r

-- the answer and the buffer are those of an assembly: its text stands at the start of the buffer, all else is as before
pub record Assembles (a : Output.Assembly) (out after : List ℕ) (r : Result Assembly AssembleError) : Type 0 where
  pub answer : assembly_answer_numbered r ≡ a.answer
  pub buffer : after ≡ overwrite 0 a.text out
