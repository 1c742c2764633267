-- `emission::emit` meets its contract: nothing is kept at first.
use Rattle.emission.proofs.WrittenBindings.{kept_none}
use Rattle.emission.proofs.emit.Goals as goal

pub expression-requires-clause-keeps : goal.expression-requires-clause-keeps
expression-requires-clause-keeps c = kept_none c.args.text.now _ c.args.out.now c.args.at
