-- `source::parameters::trimmed_span` meets its contract: what each trimming leaves is as long as the definition says.
use mathlib.Core.Path.{ap}
use native.Mathlib.Omega.{arith}
use lib.ListN.{length}
use Rattle.trim.proofs.Laws.{start_trimmed-length}
use Rattle.source.proofs.parameters.trimmed_span.Goals as goal

pub overflow_sub-start : goal.overflow_sub-start
overflow_sub-start c = omega (arith, start_trimmed-length c.args.s.now, ap length c.trim_start-rest.ensures.text)

pub returns : goal.returns
returns c = cc
