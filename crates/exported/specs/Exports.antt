-- Three exports of include/atc_vm.h called in a row: atc_assemble, atc_parse_ops, atc_execute_state_transition_with_gas.
use Rattle.std.specs.Prelude.{ℕ, ◌*◌, ◌≤◌, ◌≡◌, [], ◌∷◌, length, take}
use Rattle.numbered.specs.declared.Numbered.{Numbered}
use Rattle.numbered.specs.Numbered.{carrying}
use Rattle.context.specs.Gate.{gate_numbered}
use Rattle.correctness.specs.Call.{Compilation, Left, assembly_of, transition_on}
use Rattle.atc_vm.specs.Calls.{Assembled, Read, Ran}

-- what the caller is given: of each export its result as the number and the eight words of its answer, and at the end its buffers
pub record Given : Type 0 where
  pub assembly : Numbered
  pub reading : Numbered
  pub transition : Numbered
  pub left : Left

-- each export keeps its contract: reading is lent the first n bytes of `out`, the transition `kinds` and `operands` as reading left them
pub record InRow (x : Compilation) (n : ℕ) (y : Given) : Type 0 where
  pub assembles : Assembled (assembly_of x) x.out y.left.out y.assembly.words y.assembly.number
  pub reads : Read (take n y.left.out) x.run.kinds x.run.operands
      y.left.kinds y.left.operands y.reading.words y.reading.number
  pub runs : Ran (transition_on x y.left.kinds y.left.operands)
      y.left.stack y.left.work y.left.storage y.transition.words y.transition.number

-- what the caller sees to
pub record Lends (x : Compilation) (n k p v : ℕ) (y : Given) : Type 0 where
  -- atc_assemble gives 0 with the words n, k, p, v
  pub accepts : y.assembly ≡ carrying 0 (n ∷ k ∷ p ∷ v ∷ [])
  -- kinds and operands have 2k entries each
  pub kinds : length x.run.kinds ≡ 2 * k
  pub operands : length x.run.operands ≡ 2 * k
  -- atc_execution_gate gives 0 for the context's eight texts
  pub passes : (gate_numbered x.context).number ≡ 0
  -- a stack of at least 4,096 entries, work as long as storage, and of the storage no more used than there is, nor more than 65,536 slots
  pub stack : 4096 ≤ length x.run.stack
  pub work : length x.run.work ≡ length x.run.storage
  pub within : x.run.state.used ≤ length x.run.storage
  pub used : x.run.state.used ≤ 65536
