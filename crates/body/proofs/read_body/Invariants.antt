use Rattle.std.proofs.Common.{take, ◌≡◌}
use Rattle.std.specs.Iterator.Adapters.{zip_first, zip_second}
use Rattle.body.proofs.BodyLoop.{Lines}
use Rattle.body.proofs.LastReturn.{Meeting}
use Rattle.body.proofs.read_body.Given as goal

abbrev pub invariant-loop-number : goal.invariant-loop-number
invariant-loop-number l = record {
  can : (goal.iterator-loop-number).can_next l.number-iterator;
  finite : (goal.iterator-loop-number).is_finite l.number-iterator;
  text : (zip_second l.number-iterator).text.now ≡ take l.fn.body.end l.contract;
  lines : Lines l.contract l.fn.body.start l.fn.body.end l.initial.state (zip_second l.number-iterator).at (zip_first l.number-iterator).start l.state;
  met : Meeting l.contract l.fn.body.start l.fn.body.end l.initial.state (zip_second l.number-iterator).at l.state;
}
