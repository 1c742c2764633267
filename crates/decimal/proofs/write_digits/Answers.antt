-- `decimal::write_digits` meets its contract: what is left of the number, written over the buffer, gives what the whole number gives.
use mathlib.Core.Path.{refl, sym, ◌∙◌}
use native.Mathlib.Omega.{arith}
use lib.ListN.{length-set}
use Rattle.decimal.proofs.Laws.{length_positive}
use Rattle.decimal.proofs.Buffer.{left_one, left_two, writes_one, writes_more, ends_more, writes_two, ends_two}
use Rattle.decimal.proofs.write_digits.Goals as goal

pub overflow_sub-i : goal.overflow_sub-i
overflow_sub-i c = omega (arith, length_positive c.args.n)

pub loop-rest-init : goal.loop-rest-init
loop-rest-init c = let p = length_positive c.args.n in (refl, record { inside = omega arith; last = omega arith }, refl)

pub overflow_sub-out : goal.overflow_sub-out
overflow_sub-out c = omega (arith, left_two c.loop-rest.invariant.1 c.loop-rest-test.true)

pub bounds-out-i-in-loop-rest : goal.bounds-out-i-in-loop-rest
bounds-out-i-in-loop-rest c = simp length-set (omega arith)

pub overflow_sub-i-in-loop-rest : goal.overflow_sub-i-in-loop-rest
overflow_sub-i-in-loop-rest c = left_two c.loop-rest.invariant.1 c.loop-rest-test.true

pub loop-rest-preserved : goal.loop-rest-preserved
loop-rest-preserved c =
    let l = c.loop-rest in
    let m = c.loop-rest-test.true in
    let b = c.to_ascii.result in
    let d = c.to_ascii-in-loop-rest.result in (
      simp length-set l.invariant.0,
      ends_two l.invariant.1 m b d,
      sym (writes_two l.invariant.1 m b d c.to_ascii.ensures c.to_ascii-in-loop-rest.ensures) ∙ l.invariant.2,
    )

pub returns-then-rest-lt10 : goal.returns-then-rest-lt10
returns-then-rest-lt10 c =
    let l = c.loop-rest in
    sym (writes_one l.invariant.1 c.if-rest-lt10.true _ c.to_ascii-then-rest-lt10.ensures) ∙ l.invariant.2

pub overflow_sub-out-2 : goal.overflow_sub-out-2
overflow_sub-out-2 c = left_one c.loop-rest.invariant.1 c.if-rest-lt10.false

pub bounds-out-i-3 : goal.bounds-out-i-3
bounds-out-i-3 c = simp length-set (omega arith)

pub returns : goal.returns
returns c =
    let l = c.loop-rest in
    let m = c.if-rest-lt10.false in
    let b = c.to_ascii-2.result in
    sym (writes_more l.invariant.1 m b c.to_ascii-2.ensures ∙ writes_one (ends_more l.invariant.1 m b) (omega arith) _ c.to_ascii-3.ensures)
    ∙ l.invariant.2
