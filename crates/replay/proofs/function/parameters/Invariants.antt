use Rattle.std.proofs.Common.{◌≡◌}
use Rattle.replay.proofs.function.parameters.Given as goal

abbrev pub invariant-loop-name : goal.invariant-loop-name
invariant-loop-name g l = record {
  can : (goal.iterator-loop-name g).can_next l.name-iterator;
  finite : (goal.iterator-loop-name g).is_finite l.name-iterator;
  text : l.name-iterator.text.now ≡ l.text;
}
