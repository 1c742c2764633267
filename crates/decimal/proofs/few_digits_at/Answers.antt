-- `decimal::few_digits_at` meets its contract: what is left of the digits, after acc, writes the number that all of them write.
use Prim.Native.Nat.{ℕ, ◌+◌, ◌*◌}
use mathlib.Core.Path.{◌≡◌, sym, ap, ◌∙◌}
use lib.ListN.{drop}
use Rattle.base.specs.Lists.{take_while}
use Rattle.decimal.specs.Decimal.{digit, value, value_from}
use Rattle.decimal.specs.Code.Digits.{capped}
use Rattle.decimal.proofs.Runs.{DigitAt, digit_at, value_more, over, answer}
use Rattle.decimal.proofs.few_digits_at.Goals as goal
use Rattle.decimal.proofs.few_digits_at.Goals.{After-loop-d, After-from-d, In-loop-d}

digit_here : (c : In-loop-d) → DigitAt c.args.s.now c.loop-d.i
digit_here c = digit_at _ _ (sym c.is_digit_at.ensures ∙ c.loop-d-test.true)

value_after : (c : After-from-d) →
    let l = c in
    let s = l.args.s.now in
    value (take_while digit (drop l.args.at s)) ≡ value_from (l.loop-d.acc * 10 + c.from-d.result) (take_while digit (drop (l.loop-d.i + 1) s))
value_after c =
    let l = c in
    let s = l.args.s.now in
    l.loop-d.invariant.2
    ∙ value_more {s = s} {i = l.loop-d.i} ((digit_at _ _ (sym c.is_digit_at.ensures ∙ c.loop-d-test.true))) l.loop-d.acc
    ∙ ap (λ (d : ℕ). value_from (l.loop-d.acc * 10 + d) (take_while digit (drop (l.loop-d.i + 1) s))) (sym c.from-d.ensures)

pub returns-in_default : goal.returns-in_default
returns-in_default c =
    let l = c in
    let s = l.args.s.now in
    answer s _ c.digits_end.result _
    (l.loop-d.invariant.1 ∙ sym c.digits_end.ensures)
    (ap capped (value_after (goal.at.returns-in_default c).After-from-d) ∙ over _ (take_while digit (drop (l.loop-d.i + 1) s)) (rw c.in_default.is at c.with_digit.ensures))
