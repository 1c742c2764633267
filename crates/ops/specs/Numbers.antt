-- Document 01's number of each answer of the reader, with the values that it carries.
use Rattle.std.specs.Prelude.{ℕ, Result}
use Rattle.operation.specs.declared.OpsError.{OpsError}
use Rattle.numbered.specs.declared.Numbered.{Numbered}
use Rattle.numbered.specs.Numbered.{result_numbered, size_numbered}
use Rattle.operation.specs.Errors.{ops_error_numbered}

abbrev pub parsed_ops_numbered : Result ℕ OpsError → Numbered
parsed_ops_numbered = result_numbered size_numbered ops_error_numbered
