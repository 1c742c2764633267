-- `letters` is E10: what the call ensures, and the group's figures.
use mathlib.Core.Path.{◌∙◌}
use Rattle.examples.proofs.Bench.{bench}
use Rattle.examples.proofs.gate.letters.Goals as goal

pub returns : goal.returns
returns c = c.execution_gate.ensures.says ∙ bench.e10
