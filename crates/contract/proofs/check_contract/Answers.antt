-- `contract::check_contract` meets its contract: the refusals 1 to 24 in their order.
-- Assumes nothing.
use Prim.Native.Nat.{ℕ}
use mathlib.Core.Path.{sym, subst, ◌∙◌}
use Rattle.std.proofs.lemmas.Result.{err_from_is_err_and}
use Rattle.numbered.specs.declared.Numbered.{Numbered}
use Rattle.base.specs.Outcome.{Outcome}
use Rattle.grammar.specs.Tree.{Tree}
use Rattle.contract.specs.Code.Concluded.{Concludes}
use Rattle.contract.proofs.Conclusion.{no_contract, no_vector, no_function, function_is, readable_short}
use Rattle.contract.proofs.check_contract.Goals as goal

pub returns-then-not-is_readable : goal.returns-then-not-is_readable
returns-then-not-is_readable c =
    let a = c.args in
    record { by = no_contract a.contract.now a.vector.now (sym c.is_readable.ensures ∙ c.if-not-is_readable.true) }

pub returns-then-not-is_readable-2 : goal.returns-then-not-is_readable-2
returns-then-not-is_readable-2 c =
    let a = c.args in
    record { by = no_vector a.contract.now a.vector.now (sym c.is_readable.ensures ∙ c.if-not-is_readable.false) (sym c.is_readable-2.ensures ∙ c.if-not-is_readable-2.true) }

pub returns-in_err-places : goal.returns-in_err-places
returns-in_err-places c =
    let a = c.args in
    let p = err_from_is_err_and c.from_residual.result c.from_residual.ensures.1 in
    rw (p.1, p.2) (record { by = no_function a.contract.now a.vector.now (sym c.is_readable.ensures ∙ c.if-not-is_readable.false) (sym c.is_readable-2.ensures ∙ c.if-not-is_readable-2.false) (sym c.find_function.ensures.answer ∙ c.in_err-places.was) })

pub read_function-requires : goal.read_function-requires
read_function-requires c = record { short = readable_short c.args.contract.now (sym c.is_readable.ensures ∙ c.if-not-is_readable.false); found = sym c.find_function.ensures.answer ∙ c.in_ok-places.was }

pub returns : goal.returns
returns c =
    let a = c.args in
    subst (λ (o : Outcome Numbered (ℕ × Tree)). Concludes a.contract.now a.vector.now o c.read_function.result)
    (sym (function_is a.contract.now a.vector.now (sym c.is_readable.ensures ∙ c.if-not-is_readable.false) (sym c.is_readable-2.ensures ∙ c.if-not-is_readable-2.false) (sym c.find_function.ensures.answer ∙ c.in_ok-places.was)))
    c.read_function.ensures
