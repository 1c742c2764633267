-- `Known::is_called` meets its contract: by the tag, then by the name.
use mathlib.Core.Path.{◌∙◌}
use Rattle.bindings.proofs.Lookup.{called_other, called_outside, called_by}
use Rattle.bindings.proofs.names.Known.is_called.Goals as goal

pub returns-then-self-i : goal.returns-then-self-i
returns-then-self-i c = let k = c.args.self in called_other k.text.now k.table.now.name_start k.table.now.name_len k.values.now.tag _ c.args.i c.requires.1 c.if-self-i.true

pub returns-then-end-self : goal.returns-then-end-self
returns-then-end-self c = let k = c.args.self in called_outside k.text.now k.table.now.name_start k.table.now.name_len k.values.now.tag _ c.args.i c.requires.1 c.if-self-i.false c.from-start.ensures c.from.ensures c.if-end-self.true

pub returns : goal.returns
returns c = let k = c.args.self in c.eq.ensures ∙ called_by k.text.now k.table.now.name_start k.table.now.name_len k.values.now.tag _ c.args.i c.requires.1 c.if-self-i.false c.from-start.ensures c.from.ensures c.if-end-self.false
