-- `tally` is E1 through `compile`: what the call ensures, and the group's figures.
use Rattle.examples.proofs.InRow.{compiles}
use Rattle.examples.proofs.in_row.tally.Goals as goal

pub returns : goal.returns
returns c = compiles c.requires c.compile.ensures.composes
