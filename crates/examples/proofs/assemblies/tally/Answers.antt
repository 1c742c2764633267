-- `tally` is E1: what the call ensures, and the group's figures.
use mathlib.Core.Path.{ap, ◌∙◌}
use mathlib.Core.List.{List}
use Prim.Native.Nat.{ℕ}
use Rattle.base.specs.Overwrite.{overwrite}
use Rattle.examples.specs.Runs.{zeros}
use Rattle.examples.proofs.Bench.{bench}
use Rattle.examples.proofs.Assembly.{assembles}
use Rattle.examples.proofs.assemblies.tally.Goals as goal

pub returns : goal.returns
returns c =
    let h = assembles _ _ _ _ _ _ c.requires c.assemble.ensures in
    record { answer = h.answer ∙ bench.e1; buffer = h.buffer ∙ ap (λ (t : List ℕ). overwrite 0 t zeros) bench.e1_text }
