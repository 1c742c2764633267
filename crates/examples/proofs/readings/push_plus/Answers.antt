-- `push_plus` is `Push +5` of E7: what the call ensures, and the group's figures.
use mathlib.Core.Path.{ap, ◌∙◌}
use mathlib.Core.List.{List}
use Rattle.base.specs.Overwrite.{overwrite}
use Rattle.kinds.specs.Kinds.{Operation}
use Rattle.ops.specs.Ops.{kinds_of, operands_of}
use Rattle.ops.specs.Numbers.{parsed_ops_numbered}
use Rattle.examples.specs.Runs.{zeros, nines}
use Rattle.examples.proofs.Bench.{bench}
use Rattle.examples.proofs.readings.push_plus.Goals as goal

pub returns : goal.returns
returns c = (record { answer = ap parsed_ops_numbered c.read.ensures.answer ∙ bench.e7_plus; buffer = c.read.ensures.operands ∙ ap (λ (os : List Operation). overwrite 0 (operands_of os) zeros) bench.e7_operations }, c.read.ensures.kinds ∙ ap (λ (os : List Operation). overwrite 0 (kinds_of os) nines) bench.e7_operations)
