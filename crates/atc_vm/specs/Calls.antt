-- What each exported call gives: document 01's number, the eight words, and every lent buffer.
use Rattle.std.specs.Prelude.{ℕ, min, ◌≡◌, List, [], ◌∷◌, length}
use Rattle.base.specs.Overwrite.{overwrite}
use Rattle.numbered.specs.declared.Numbered.{Numbered}
use Rattle.numbered.specs.Numbered.{carrying}
use Rattle.ops.specs.Ops.{read_text, answer_of, ops_of, kinds_of, operands_of, trimmed_line, trimmed_place}
use Rattle.ops.specs.Numbers.{parsed_ops_numbered}
use Rattle.contract.specs.Output.{Assembly}
use Rattle.perform.specs.Numbers.{run_answer_numbered}
use Rattle.perform.specs.Run.{RunResult}
use Rattle.atc_vm.specs.Words.{Tells}

pub record Assembled (a : Assembly) (out out_after words : List ℕ) (r : ℕ) : Type 0 where
  pub tells : Tells a.answer words r
  pub buffer : out_after ≡ overwrite 0 a.text out

pub record Read (text kinds operands kinds_after operands_after words : List ℕ) (r : ℕ) : Type 0 where
  pub tells : Tells (parsed_ops_numbered (answer_of (read_text text (min (length kinds) (length operands))))) words r
  pub kinds_written : kinds_after ≡ overwrite 0 (kinds_of (ops_of (read_text text (min (length kinds) (length operands))))) kinds
  pub operands_written : operands_after ≡ overwrite 0 (operands_of (ops_of (read_text text (min (length kinds) (length operands))))) operands

-- the place and the length of a line's trimmed text; 0 and 0 where there is no such line
abbrev pub place_numbered : List ℕ → ℕ → Numbered
place_numbered text line = carrying 0 (trimmed_place text line ∷ length (trimmed_line text line) ∷ [])

pub record Ran (t : RunResult) (stack work storage words : List ℕ) (r : ℕ) : Type 0 where
  pub tells : Tells (run_answer_numbered t.answer) words r
  pub stack_left : stack ≡ t.stack
  pub work_left : work ≡ t.work
  pub storage_left : storage ≡ t.storage
