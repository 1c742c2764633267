-- `left_to_right` is the second of E9: what the call ensures, and the group's figures.
use mathlib.Core.Path.{◌∙◌}
use Rattle.examples.proofs.Bench.{bench}
use Rattle.examples.proofs.assemblies.left_to_right.Goals as goal

pub returns : goal.returns
returns c = c.answer.ensures ∙ bench.e9_left
