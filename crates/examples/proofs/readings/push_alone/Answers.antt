-- `push_alone` is E8: what the call ensures, and the group's figures.
use mathlib.Core.Path.{ap, ◌∙◌}
use Rattle.ops.specs.Numbers.{parsed_ops_numbered}
use Rattle.examples.proofs.Bench.{bench}
use Rattle.examples.proofs.readings.push_alone.Goals as goal

pub returns : goal.returns
returns c = ap parsed_ops_numbered c.answer.ensures ∙ bench.e8
