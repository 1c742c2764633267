-- `assemble::message::words` meets its contract: 0 and the numbers from 27 on have no words.
-- Assumes nothing.
use Rattle.std.proofs.Common.{arith}
use Rattle.assemble.proofs.Messages.{no_words}
use Rattle.assemble.proofs.message.words.Goals as goal
use Rattle.assemble.proofs.message.words.Goals.{in-0-1, in_default-1}

pub returns-in-0 : goal.returns-in-0
returns-in-0 c = elim c.in-0-1.branch [ in-0-1 w ↦ no_words c.args.number (λ h. omega arith) | in_default-1 w ↦ no_words c.args.number (λ h. omega arith) ]
