-- `scope::parameters::bind_parameters` meets its contract: the parameters that the iterator gave were bound, and those that it has left are to bind.
-- Assumes nothing.
use Rattle.std.proofs.Common.{refl, sym, ◌∙◌, rules, arith, inl, inr}
use Rattle.std.proofs.lemmas.Result.{err_from_is_err_and}
use Rattle.std.specs.Iterator.Adapters.{zip_second}
use Rattle.source.specs.Parameters.{parameters}
use Rattle.scope.specs.Part.{part}
use Rattle.scope.specs.Parameters.{parameter_bound}
use Rattle.scope.proofs.Loops.{turn_first, turn_done, turn_next, turn_off}
use Rattle.scope.proofs.ParameterSteps.{names_from, given, all_names, names_done, name_item, name_within, parameter_refused, parameter_bound_lem}
use Rattle.scope.proofs.parameters.bind_parameters.Goals as goal

pub loop-place-init : goal.loop-place-init
loop-place-init c =
    let a = c.args in
    let s = a.contract.now in
    let z = c.into_iter-place-iterator.ensures.into_iter_gives in
    let f = c.zip-place-items.ensures.first in
    let g = c.zip-place-items.ensures.second in
    rw z (rw (f, g) (record {
      can = (tt, tt);
      finite = tt;
      text = refl;
      names = turn_first s (parameter_bound a.vector.now) (names_from s a.params.end) (parameters (part s a.params.start a.params.end)) a.params.start a.params.end a.state c.requires (all_names s a.params.start a.params.end c.requires);
    }))

pub slice_bounds-number_for-count : goal.slice_bounds-number_for-count
slice_bounds-number_for-count c =
    let a = c.args in
    let i = c.loop-place.invariant in
    let at = (zip_second c.loop-place.place-iterator).at in
    let e = given a.contract.now a.params.end at i.text c.in-Some.ensures.steps.1.1 in
    let w = name_within a.contract.now a.params.start a.params.end c.requires at _ e in
    w.ordered

pub slice_bounds-number_for-start : goal.slice_bounds-number_for-start
slice_bounds-number_for-start c =
    let a = c.args in
    let i = c.loop-place.invariant in
    let at = (zip_second c.loop-place.place-iterator).at in
    let e = given a.contract.now a.params.end at i.text c.in-Some.ensures.steps.1.1 in
    let w = name_within a.contract.now a.params.start a.params.end c.requires at _ e in
    search (rules, w.ordered)

pub slice_bounds-number_for-end : goal.slice_bounds-number_for-end
slice_bounds-number_for-end c =
    let a = c.args in
    let i = c.loop-place.invariant in
    let at = (zip_second c.loop-place.place-iterator).at in
    let e = given a.contract.now a.params.end at i.text c.in-Some.ensures.steps.1.1 in
    let w = name_within a.contract.now a.params.start a.params.end c.requires at _ e in
    search (rules, w.inside)

pub returns-in_err-number : goal.returns-in_err-number
returns-in_err-number c =
    let a = c.args in
    let i = c.loop-place.invariant in
    let at = (zip_second c.loop-place.place-iterator).at in
    let e = given a.contract.now a.params.end at i.text c.in-Some.ensures.steps.1.1 in
    let w = name_within a.contract.now a.params.start a.params.end c.requires at _ e in
    let t = rw (sym c.in-Some.ensures.steps.0.0) at i.names in
    let p = err_from_is_err_and c.from_residual.result c.from_residual.ensures.1 in
    rw (p.1, p.2) (turn_off c.requires t (name_item a.contract.now a.params.start a.params.end c.requires at _ e) (parameter_refused a.contract.now a.vector.now _ _ _ w _ _ c.number_for.ensures c.in_err-number.was {left = c.args.state}) refl)

pub bind-requires : goal.bind-requires
bind-requires c =
    let a = c.args in
    let i = c.loop-place.invariant in
    let at = (zip_second c.loop-place.place-iterator).at in
    let e = given a.contract.now a.params.end at i.text c.in-Some.ensures.steps.1.1 in
    let w = name_within a.contract.now a.params.start a.params.end c.requires at _ e in
    let g = c.of_number.ensures.tree in
    (record { ordered = w.ordered; fits = w.fits }, (record { ordered = omega arith; fits = w.fits }, (record { k = omega (arith, g.k); p = omega (arith, g.p); len = omega (arith, g.len, g.short) }, w.inside)))

pub loop-place-preserved : goal.loop-place-preserved
loop-place-preserved c =
    let a = c.args in
    let i = c.loop-place.invariant in
    let at = (zip_second c.loop-place.place-iterator).at in
    let e = given a.contract.now a.params.end at i.text c.in-Some.ensures.steps.1.1 in
    let w = name_within a.contract.now a.params.start a.params.end c.requires at _ e in
    let s = c.in-Some.ensures.steps in
    let t = rw (sym c.in-Some.ensures.steps.0.0) at i.names in
    record {
      can = (tt, tt);
      finite = tt;
      text = s.1.0 ∙ i.text;
      names = rw s.0.1 (turn_next c.requires t (name_item a.contract.now a.params.start a.params.end c.requires at _ e) (parameter_bound_lem a.contract.now a.vector.now _ _ _ w _ _ c.number_for.ensures c.in_ok-number.was c.of_number.ensures.tree c.bind.ensures) c.in_ok-bind.was);
    }

pub returns-in_err-bind : goal.returns-in_err-bind
returns-in_err-bind c =
    let a = c.args in
    let i = c.loop-place.invariant in
    let at = (zip_second c.loop-place.place-iterator).at in
    let e = given a.contract.now a.params.end at i.text c.in-Some.ensures.steps.1.1 in
    let w = name_within a.contract.now a.params.start a.params.end c.requires at _ e in
    let t = rw (sym c.in-Some.ensures.steps.0.0) at i.names in
    let p = err_from_is_err_and c.from_residual-in_err-bind.result c.from_residual-in_err-bind.ensures.1 in
    rw (p.1, p.2) (turn_off c.requires t (name_item a.contract.now a.params.start a.params.end c.requires at _ e) (parameter_bound_lem a.contract.now a.vector.now _ _ _ w _ _ c.number_for.ensures c.in_ok-number.was c.of_number.ensures.tree c.bind.ensures) c.in_err-bind.was)

-- the numbers do not end first, as each parameter has a byte
pub returns : goal.returns
returns c =
    let a = c.args in
    let i = c.loop-place.invariant in
    let at = (zip_second c.loop-place.place-iterator).at in
    elim c.in-None.ensures.steps [
      | inl u ↦
          let w = c.requires in
          let t = i.names in absurd (omega (arith, u.1.0, t.counted, t.high, w.fits))
      | inr u ↦ turn_done c.requires i.names (names_done a.contract.now a.params.start a.params.end c.requires at (given a.contract.now a.params.end at i.text u.1.1.0))
    ]
