-- `plain_op::operand` meets its contract: the bytes looked at are those of a word, a space and digits.
use Prim.Native.Nat.{ℕ, ◌+◌}
use mathlib.Core.Path.{sym, ap, ◌∙◌}
use native.Mathlib.Omega.{arith}
use Rattle.decimal.specs.declared.Digits.{Digits}
use Rattle.plain_op.proofs.PlainReads.{run_within, operand_read}
use Rattle.plain_op.proofs.operand.Goals as goal

pub overflow_add-result : goal.overflow_add-result
overflow_add-result c =
    let a = c.args in
    let n = ap (λ (r : Digits). r.len) c.few_digits_at-run.ensures in
    let w = run_within a.text.now a.digits (omega (arith, c.if-run-eq0.false)) in
    let g = c.well_formed.0.1 in record { fits = omega arith }

pub returns : goal.returns
returns c =
    let a = c.args in
    let n = ap (λ (r : Digits). r.len) c.few_digits_at-run.ensures in
    operand_read a.text.now a.at a.kind a.digits (c.requires c.if-not-fits.false) _ _
    (omega (arith, c.if-run-eq0.false))
    (sym (ap (λ (r : Digits). r.value) c.few_digits_at-run.ensures) ∙ c.in_ok-operand.was)
    (ap (λ (i : ℕ). a.digits + i) n)
