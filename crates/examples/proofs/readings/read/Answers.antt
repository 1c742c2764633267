-- `read` meets its contract: its buffers are 4,096 long.
use Rattle.examples.proofs.Reading.{fills}
use Rattle.examples.proofs.readings.read.Goals as goal

pub returns : goal.returns
returns c = fills _ _ _ _ _ _ c.requires.0 c.requires.1 c.parse_ops.ensures
