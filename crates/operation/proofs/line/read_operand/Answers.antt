-- `line::read_operand` meets its contract: what follows the word is no longer when trimmed.
use Rattle.operation.proofs.Trimmed.{start_within}
use Rattle.operation.proofs.line.read_operand.Goals as goal

pub overflow_sub-start : goal.overflow_sub-start
overflow_sub-start c = start_within _ _ c.trim_start-from_first.ensures.text
