-- `assembler::assemble` meets its contract: the contract first, then the stem.
use mathlib.Core.Path.{sym, ◌∙◌}
use Rattle.std.proofs.lemmas.Result.{err_from_is_err_and}
use Rattle.assembler.proofs.Stems.{stem_short}
use Rattle.assembler.proofs.Outputs.{is_accepted, is_refused, as_assembled, stem_refused}
use Rattle.assembler.proofs.assemble.Goals as goal

pub returns-in_err-checked : goal.returns-in_err-checked
returns-in_err-checked c =
    let a = c.args in
    let p = err_from_is_err_and c.from_residual.result c.from_residual.ensures.1 in
    rw (p.1, p.2) (as_assembled a.contract.now a.vector.now a.stem.now (is_refused c.check_contract.ensures c.in_err-checked.was a.stem.now a.out.now))

pub returns-then-not-stem_fits : goal.returns-then-not-stem_fits
returns-then-not-stem_fits c =
    let a = c.args in
    as_assembled a.contract.now a.vector.now a.stem.now (stem_refused a.stem.now a.out.now (is_accepted c.check_contract.ensures c.in_ok-checked.was) (sym c.stem_fits.ensures ∙ c.if-not-stem_fits.true))

pub write_output-requires : goal.write_output-requires
write_output-requires c =
    record { short = stem_short c.args.stem.now (sym c.stem_fits.ensures ∙ c.if-not-stem_fits.false); vector = _; o = _; accepts = is_accepted c.check_contract.ensures c.in_ok-checked.was }

pub returns : goal.returns
returns c =
    let a = c.args in
    as_assembled a.contract.now a.vector.now a.stem.now (c.write_output.ensures.is _ _ (is_accepted c.check_contract.ensures c.in_ok-checked.was) (sym c.stem_fits.ensures ∙ c.if-not-stem_fits.false))
