-- `div_price` is E3 with gas 1: what the call ensures, and the group's figures.
use mathlib.Core.Path.{ap, ◌∙◌}
use Rattle.perform.specs.Numbers.{run_answer_numbered}
use Rattle.examples.proofs.Bench.{bench}
use Rattle.examples.proofs.runs.div_price.Goals as goal

pub returns : goal.returns
returns c = ap run_answer_numbered c.answer.ensures ∙ bench.e3_price
