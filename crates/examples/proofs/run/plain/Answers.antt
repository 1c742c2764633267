-- `plain` meets its contract: the lent stack is zeros, as are the other buffers.
use Rattle.examples.proofs.Reading.{ends}
use Rattle.examples.proofs.run.plain.Goals as goal

pub returns : goal.returns
returns c = ends _ _ _ _ _ _ _ c.requires c.run.ensures
