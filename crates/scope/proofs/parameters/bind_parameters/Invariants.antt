use Rattle.std.proofs.Common.{take, ◌≡◌}
use Rattle.std.specs.Iterator.Adapters.{zip_first, zip_second}
use Rattle.source.specs.Parameters.{parameters}
use Rattle.scope.specs.Part.{part}
use Rattle.scope.specs.Parameters.{parameter_bound}
use Rattle.scope.proofs.Loops.{Turn}
use Rattle.scope.proofs.ParameterSteps.{names_from}
use Rattle.scope.proofs.parameters.bind_parameters.Given as goal

abbrev pub invariant-loop-place : goal.invariant-loop-place
invariant-loop-place l = record {
  can : (goal.iterator-loop-place).can_next l.place-iterator;
  finite : (goal.iterator-loop-place).is_finite l.place-iterator;
  text : (zip_second l.place-iterator).text.now ≡ take l.fn.params.end l.contract;
  names : Turn l.contract (parameter_bound l.vector) (names_from l.contract l.fn.params.end) (parameters (part l.contract l.fn.params.start l.fn.params.end)) l.fn.params.start l.fn.params.end l.initial.state (zip_second l.place-iterator).at (zip_first l.place-iterator).start l.state;
}
