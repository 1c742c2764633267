-- `source::parameters::next_of` meets its contract: the pieces that are passed have empty names, so the next parameter from `at` on is the next from `i` on.
use mathlib.Core.Path.{sym, ◌∙◌}
use native.Mathlib.Omega.{arith}
use Rattle.source.proofs.Pieces.{past, Stands, stands}
use Rattle.source.proofs.Cursor.{here, skipped}
use Rattle.source.proofs.parameters.next_of.Goals as goal
use Rattle.source.proofs.parameters.next_of.Goals.{After-parameter_at-parameter}

piece : (c : After-parameter_at-parameter) → Stands c.args.s.now c.loop-i.i c.parameter_at-parameter.result
piece c = rw c.parameter_at-parameter.ensures (stands c.args.s.now c.loop-i.i (omega arith))

pub returns-then-parameter : goal.returns-then-parameter
returns-then-parameter c = sym (c.loop-i.invariant ∙ here (piece (goal.at.returns-then-parameter c).After-parameter_at-parameter) c.if-parameter.true)

pub loop-i-smaller : goal.loop-i-smaller
loop-i-smaller c = let o = (piece (goal.at.loop-i-smaller c).After-parameter_at-parameter).on c.loop-i-test.true in omega arith

pub loop-i-preserved : goal.loop-i-preserved
loop-i-preserved c = c.loop-i.invariant ∙ skipped (piece (goal.at.loop-i-preserved c).After-parameter_at-parameter) c.if-parameter.false

pub returns : goal.returns
returns c = sym (c.loop-i.invariant ∙ past c.args.s.now c.loop-i.i c.loop-i-test.false)
