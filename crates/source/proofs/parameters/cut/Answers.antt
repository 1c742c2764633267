-- `source::parameters::cut` meets its contract: by what the search found.
use mathlib.Core.Path.{◌∙◌}
use Rattle.source.proofs.Cuts.{cut}
use Rattle.source.proofs.parameters.cut.Goals as goal

pub returns : goal.returns
returns c = rw c.find_byte.ensures at c.unwrap_or.ensures ∙ cut c.args.b c.args.s.now c.args.at c.requires
