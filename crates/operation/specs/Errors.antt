-- Document 01's number of each refusal of the reader, with the values that it carries.
use Rattle.std.specs.Prelude.{[], ◌∷◌}
use Rattle.numbered.specs.declared.Numbered.{Numbered}
use Rattle.numbered.specs.Numbered.{plain, carrying}
use Rattle.operation.specs.declared.OpsError.{OpsError}
use Rattle.operation.specs.declared.OpsError.TheVariants.{NotUtf8, BadPush, BadSlot, UnknownOp, BadTarget, Full, Empty}

abbrev pub ops_error_numbered : OpsError → Numbered
ops_error_numbered NotUtf8 = plain 27
ops_error_numbered (BadPush line place len) = carrying 28 (line ∷ place ∷ len ∷ [])
ops_error_numbered (BadSlot line place len) = carrying 29 (line ∷ place ∷ len ∷ [])
ops_error_numbered (UnknownOp line place len) = carrying 30 (line ∷ place ∷ len ∷ [])
ops_error_numbered (BadTarget line place len) = carrying 31 (line ∷ place ∷ len ∷ [])
ops_error_numbered (Full line) = carrying 32 (line ∷ [])
ops_error_numbered Empty = plain 33
