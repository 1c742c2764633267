-- `bindings::names::tag_of` meets its contract: the name's first byte and its last two.
use Rattle.std.proofs.Common.{rules}
use Rattle.bindings.specs.Code.Table.{tag_of}
use Rattle.bindings.proofs.Tags.{tag_empty}
use Rattle.bindings.proofs.names.tag_of.Goals as goal

pub returns-then-len-eq0 : goal.returns-then-len-eq0
returns-then-len-eq0 c = tag_empty _ c.if-len-eq0.true

pub returns : goal.returns
unfolding tag_of
returns c = search rules
