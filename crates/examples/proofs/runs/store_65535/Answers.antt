-- `store_65535` is `Store 65535` of E6: what the call ensures, and the group's figures.
use mathlib.Core.Path.{ap, ◌∙◌}
use Rattle.perform.specs.Numbers.{run_answer_numbered}
use Rattle.examples.proofs.Bench.{bench}
use Rattle.examples.proofs.runs.store_65535.Goals as goal

pub returns : goal.returns
returns c = ap run_answer_numbered c.answer_on_four.ensures ∙ bench.e6_last
