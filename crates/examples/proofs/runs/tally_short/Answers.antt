-- `tally_short` is E2: what the call ensures, and the group's figures.
use mathlib.Core.Path.{ap, ◌∙◌}
use Rattle.perform.specs.Numbers.{run_answer_numbered}
use Rattle.examples.proofs.Bench.{bench}
use Rattle.examples.proofs.runs.tally_short.Goals as goal

pub returns : goal.returns
returns c = ap run_answer_numbered c.answer.ensures ∙ bench.e2
