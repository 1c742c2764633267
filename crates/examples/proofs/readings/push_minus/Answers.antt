-- `push_minus` is `Push -0` of E7: what the call ensures, and the group's figures.
use mathlib.Core.Path.{ap, ◌∙◌}
use Rattle.ops.specs.Numbers.{parsed_ops_numbered}
use Rattle.examples.proofs.Bench.{bench}
use Rattle.examples.proofs.readings.push_minus.Goals as goal

pub returns : goal.returns
returns c = ap parsed_ops_numbered c.answer.ensures ∙ bench.e7_minus
