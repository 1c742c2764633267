-- `contract::read_function` meets its contract: the expected value, the parameters, the body, the last return.
-- Assumes nothing.
use mathlib.Core.Path.{refl, sym, ◌∙◌}
use Rattle.std.proofs.lemmas.Result.{err_from_is_err_and}
use Rattle.scope.proofs.Simulation.{simulates_ok, simulates_err}
use Rattle.contract.proofs.Conclusion.{params_within, body_within, number_on, params_off, params_represented, body_off, reached, last_off, last_on, concludes_off}
use Rattle.contract.proofs.read_function.Goals as goal

pub bind_parameters-requires : goal.bind_parameters-requires
bind_parameters-requires c = let a = c.args in params_within a.contract.now a.vector.now a.places c.requires

pub returns-in_err-bound : goal.returns-in_err-bound
returns-in_err-bound c =
    let a = c.args in
    let p = err_from_is_err_and c.from_residual-in_err-bound.result c.from_residual-in_err-bound.ensures.1 in
    rw (p.1, p.2) (concludes_off a.contract.now a.vector.now a.places c.requires _ (number_on a.contract.now a.vector.now a.places c.requires c.number_for.ensures c.in_ok-expected.was) (params_off a.contract.now a.vector.now a.places c.requires c.started.ensures (simulates_err c.bind_parameters.ensures c.in_err-bound.was) refl))

pub read_body-requires : goal.read_body-requires
read_body-requires c =
    let a = c.args in
    (body_within a.contract.now a.vector.now a.places c.requires, params_represented a.contract.now a.vector.now a.places c.requires c.started.ensures (simulates_ok c.bind_parameters.ensures c.in_ok-bound.was) refl)

pub returns-in_err-read : goal.returns-in_err-read
returns-in_err-read c =
    let a = c.args in
    let b = simulates_ok c.bind_parameters.ensures c.in_ok-bound.was in
    let p = err_from_is_err_and c.from_residual-in_err-read.result c.from_residual-in_err-read.ensures.1 in
    rw (p.1, p.2) (concludes_off a.contract.now a.vector.now a.places c.requires _ (number_on a.contract.now a.vector.now a.places c.requires c.number_for.ensures c.in_ok-expected.was) (body_off a.contract.now a.vector.now a.places c.requires c.started.ensures b refl (simulates_err c.read_body.ensures.0 c.in_err-read.was) refl))

pub returns-in_err-returned : goal.returns-in_err-returned
returns-in_err-returned c =
    let a = c.args in
    let b = simulates_ok c.bind_parameters.ensures c.in_ok-bound.was in
    let r = simulates_ok c.read_body.ensures.0 c.in_ok-read.was in
    let q = reached a.contract.now a.vector.now a.places c.requires c.started.ensures b refl r c.read_body.ensures.1 c.in_ok-read.was refl in
    let p = err_from_is_err_and c.from_residual-in_err-returned.result c.from_residual-in_err-returned.ensures.1 in
    rw (p.1, p.2) (last_off q _ (number_on a.contract.now a.vector.now a.places c.requires c.number_for.ensures c.in_ok-expected.was) (sym c.judged.ensures ∙ c.in_err-returned.was))

pub returns : goal.returns
returns c =
    let a = c.args in
    let b = simulates_ok c.bind_parameters.ensures c.in_ok-bound.was in
    let r = simulates_ok c.read_body.ensures.0 c.in_ok-read.was in
    let q = reached a.contract.now a.vector.now a.places c.requires c.started.ensures b refl r c.read_body.ensures.1 c.in_ok-read.was refl in
    last_on q _ (number_on a.contract.now a.vector.now a.places c.requires c.number_for.ensures c.in_ok-expected.was) (sym c.judged.ensures ∙ c.in_ok-returned.was)
