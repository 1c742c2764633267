-- `run` meets its contract: the operations that were read are those that are run.
use mathlib.Core.Path.{refl}
use Rattle.examples.proofs.Reading.{front, runs}
use Rattle.examples.proofs.run.run.Goals as goal

pub slice_bounds-kinds-end : goal.slice_bounds-kinds-end
slice_bounds-kinds-end c = (front _ _ _ _ _ _ _ refl c.parse_ops.ensures c.unwrap_or-n.ensures).kinds_fit

pub slice_bounds-operands-end : goal.slice_bounds-operands-end
slice_bounds-operands-end c = (front _ _ _ _ _ _ _ refl c.parse_ops.ensures c.unwrap_or-n.ensures).operands_fit

pub returns : goal.returns
returns c = runs _ _ _ _ _ _ _ _ _ _ _ _ (front _ _ _ _ _ _ _ refl c.parse_ops.ensures c.unwrap_or-n.ensures) c.run_with_gas.ensures
