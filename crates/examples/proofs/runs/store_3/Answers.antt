-- `store_3` is `Store 3` of E6: what the call ensures, and the group's figures.
use mathlib.Core.Path.{ap, ◌∙◌}
use Rattle.perform.specs.Numbers.{run_answer_numbered}
use Rattle.examples.proofs.Bench.{bench}
use Rattle.examples.proofs.runs.store_3.Goals as goal

pub returns : goal.returns
returns c = record { answer = ap run_answer_numbered c.on_four.ensures.answer ∙ bench.e6_three; buffer = c.on_four.ensures.storage ∙ bench.e6_storage }
