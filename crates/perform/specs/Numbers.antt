-- Document 01's number of each answer, with the values that it carries.
use Rattle.std.specs.Prelude.{Result, [], ◌∷◌}
use Rattle.checks.specs.declared.VmError.{VmError}
use Rattle.numbered.specs.declared.Numbered.{Numbered}
use Rattle.numbered.specs.Numbered.{carrying, result_numbered}
use Rattle.checks.specs.Numbers.{vm_error_numbered}
use Rattle.perform.specs.declared.Success.{Success}

abbrev pub success_numbered : Success → Numbered
success_numbered s = carrying 0 (s.gas_spent ∷ s.operations ∷ s.items ∷ s.state.used ∷ [])

abbrev pub run_answer_numbered : Result Success VmError → Numbered
run_answer_numbered = result_numbered success_numbered vm_error_numbered
