-- Document 01's number of each refusal of a call, with the values that it carries.
use Rattle.std.specs.Prelude.{Result, [], ◌∷◌}
use Rattle.numbered.specs.declared.Numbered.{Numbered}
use Rattle.numbered.specs.Numbered.{plain, carrying, unit_numbered, result_numbered}
use Rattle.context.specs.Gate.{context_error_numbered}
use Rattle.checks.specs.declared.VmError.{VmError}
use Rattle.checks.specs.declared.VmError.TheVariants.{BufferLengths, Context, EmptyProgram, ProgramTooLarge, StorageTooLarge, UnknownKind, JumpOutOfRange, OutOfGas, StackUnderflow, StackLimitExceeded, DivisionByZero, StorageLimitExceeded, OutsideStorage}

abbrev pub vm_error_numbered : VmError → Numbered
vm_error_numbered BufferLengths = plain 34
vm_error_numbered (Context e) = context_error_numbered e
vm_error_numbered EmptyProgram = plain 41
vm_error_numbered (ProgramTooLarge size) = carrying 42 (size ∷ [])
vm_error_numbered (StorageTooLarge used) = carrying 43 (used ∷ [])
vm_error_numbered UnknownKind = plain 44
vm_error_numbered JumpOutOfRange = plain 45
vm_error_numbered (OutOfGas price left) = carrying 46 (price ∷ left ∷ [])
vm_error_numbered StackUnderflow = plain 47
vm_error_numbered StackLimitExceeded = plain 48
vm_error_numbered DivisionByZero = plain 49
vm_error_numbered (StorageLimitExceeded slots) = carrying 50 (slots ∷ [])
vm_error_numbered OutsideStorage = plain 51

abbrev pub check_numbered : Result (Unit {0}) VmError → Numbered
check_numbered = result_numbered unit_numbered vm_error_numbered
