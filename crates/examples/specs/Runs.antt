-- A run of ops text: reading with room for 4,096 operations, then a metered run by caller 7 with no storage used.
use Rattle.std.specs.Prelude.{Result}
use Rattle.checks.specs.declared.VmError.{VmError}
use Rattle.operation.specs.declared.OpsError.{OpsError}
use Rattle.perform.specs.declared.Success.{Success}
use Rattle.std.specs.Prelude.{ℕ, ◌≡◌, List, replicate}
use Rattle.base.specs.Overwrite.{overwrite}
use Rattle.kinds.specs.Kinds.{Operation}
use Rattle.ops.specs.Ops.{read_text, answer_of, ops_of, kinds_of, operands_of}
use Rattle.perform.specs.Call.{Call}
use Rattle.perform.specs.Run.{RunResult}
use Rattle.vm.specs.Transition.{metered_of}

-- a text that is refused has none
abbrev pub operations : List ℕ → List Operation
operations text = ops_of (read_text text 4096)

-- a call by caller 7 with this program, limit, stack, work and storage
abbrev pub call : (kinds operands : List ℕ) → ℕ → (s w m : List ℕ) → Call
call kinds operands g s w m = record {
  kinds = kinds;
  operands = operands;
  caller = 7;
  limit = g;
  state = record { used = 0 };
  stack = s;
  work = w;
  storage = m;
}

unfoldable pub ran : List ℕ → ℕ → (s w m : List ℕ) → RunResult
ran text g s w m = metered_of (call (kinds_of (operations text)) (operands_of (operations text)) g s w m)

abbrev pub zeros : List ℕ
zeros = replicate 4096 0

-- all buffers 4,096 long
abbrev pub plainly : List ℕ → ℕ → RunResult
plainly text g = ran text g zeros zeros zeros

-- four lent slots, whatever they hold
abbrev pub four : List ℕ
four = replicate 4 7

abbrev pub on_four : List ℕ → RunResult
on_four text = ran text 1000 zeros four four

-- a call's answer and its stack, or its storage, are those of a result
pub record Ends (t : RunResult) (a : Result Success VmError) (s : List ℕ) : Type 0 where
  pub answer : a ≡ t.answer
  pub stack : s ≡ t.stack

pub record Stores (t : RunResult) (a : Result Success VmError) (m : List ℕ) : Type 0 where
  pub answer : a ≡ t.answer
  pub storage : m ≡ t.storage

-- kinds that are not those read
abbrev pub nines : List ℕ
nines = replicate 4096 9

-- a reading of a text into 4,096 such kinds and 4,096 zeros: its answer, and what it leaves in both
pub record Fills (text : List ℕ) (r : Result ℕ OpsError) (ks vs : List ℕ) : Type 0 where
  pub answer : r ≡ answer_of (read_text text 4096)
  pub kinds : ks ≡ overwrite 0 (kinds_of (operations text)) nines
  pub operands : vs ≡ overwrite 0 (operands_of (operations text)) zeros
