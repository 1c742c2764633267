-- `assemble::say::say` meets its contract: the text where assembly succeeds.
-- Assumes nothing.
use Rattle.assemble.proofs.Streams.{says_text}
use Rattle.assemble.proofs.say.say.Goals as goal

pub returns : goal.returns
returns c = says_text _ _ _ _ _ _ c.assemble.ensures c.in_ok-assembly.assembly c.in_ok-assembly.was
