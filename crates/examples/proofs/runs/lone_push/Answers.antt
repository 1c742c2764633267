-- `lone_push` is the push of E5: what the call ensures, and the group's figures.
use mathlib.Core.Path.{ap, ◌∙◌}
use Rattle.perform.specs.Numbers.{run_answer_numbered}
use Rattle.examples.proofs.Bench.{bench}
use Rattle.examples.proofs.runs.lone_push.Goals as goal

pub returns : goal.returns
returns c = record { answer = ap run_answer_numbered c.plain.ensures.answer ∙ bench.e5_push; buffer = c.plain.ensures.stack ∙ bench.e5_stack }
