-- `on_four` meets its contract: the four slots are those of the definition.
use Rattle.examples.proofs.Reading.{stores}
use Rattle.examples.proofs.run.on_four.Goals as goal

pub returns : goal.returns
returns c = stores _ _ _ _ _ _ c.requires c.run.ensures
