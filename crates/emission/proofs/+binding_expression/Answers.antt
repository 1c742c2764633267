-- `emission::expression` and `emission::binding` meet their contracts: the number of bindings falls at each name.
use Rattle.std.proofs.Common.{ℕ, ◌+◌, sym, ap, ◌∙◌}
use native.Mathlib.Omega.{arith}
use Rattle.emission.proofs.WrittenBindings.{kept_put, kept_mark, again_fits, again_put}
use Rattle.emission.proofs.Loop.{running_starts, running_as, factor_past, no_factor, open_room, opened, literal_fits, literal_goes, name_below, name_stands, name_fits, name_goes, turn_ready, turn_room, turn_goes, end_fits, end_put, parameter_text, binding_means, binding_text}
use Rattle.emission.proofs.+binding_expression.Goals as goal

pub binding-put_again-requires : goal.binding-put_again-requires
binding-put_again-requires t c = again_fits _ c.requires.keeps c.requires.b_in_bounds c.in-Some.is

pub binding-returns-in-Some-clause-keeps : goal.binding-returns-in-Some-clause-keeps
binding-returns-in-Some-clause-keeps t c =
    let q = c.requires in
    kept_put q.keeps (again_put _ q.keeps q.b_in_bounds c.in-Some.is c.put_again.ensures) q.b_in_bounds

pub binding-returns-then-size-eq0-clause-keeps : goal.binding-returns-then-size-eq0-clause-keeps
binding-returns-then-size-eq0-clause-keeps t c =
    let q = c.requires in
    let e = parameter_text q.stand.0 q.stand.1 (sym c.from-size.ensures ∙ c.if-size-eq0.true) in
    kept_put q.keeps (rw (← e) at c.put_push.ensures) q.b_in_bounds

pub binding-expression-end-requires : goal.binding-expression-end-requires
binding-expression-end-requires t c =
    let q = c.requires in
    let a = c.from-start.ensures in
    let w = c.from-size.ensures in
    let z = ap (λ (k : ℕ). c.from-start.result + k) w in
    let h = c.if-size-eq0.false in (
      omega arith,
      (binding_means q.stand.0 q.stand.1 a z (omega (arith, w, h)), (rw (binding_text q.stand.0 q.stand.1 a z (omega (arith, w, h))) at q.b_in_bounds, q.keeps)),
    )

pub binding-returns : goal.binding-returns
binding-returns t c =
    let q = c.requires in
    let a = c.from-start.ensures in
    let w = c.from-size.ensures in
    let z = ap (λ (k : ℕ). c.from-start.result + k) w in
    let h = c.if-size-eq0.false in
    let e = c.expression-end.ensures in
    let t = binding_text q.stand.0 q.stand.1 a z (omega (arith, w, h)) in
    let p = rw (← t) at e.wrote in
    record { wrote = p; keeps = kept_mark _ e.keeps p q.b_in_bounds q.stand.0 }

pub expression-loop-i-init : goal.expression-loop-i-init
expression-loop-i-init t c =
    let q = c.requires in
    rw c.none_waiting-waiting.ensures (running_starts q.means_tree q.end_in_bounds q.keeps)

pub expression-returns-in_default : goal.expression-returns-in_default
expression-returns-in_default t c =
    let v = running_as c.loop-i.invariant c.if-due.true in
    absurd (no_factor v.fixed v.going (sym c.factor_at.ensures ∙ c.in_default.is))

pub expression-push-requires : goal.expression-push-requires
expression-push-requires t c =
    let v = running_as c.loop-i.invariant c.if-due.true in
    open_room v.fixed v.going (sym c.factor_at.ensures ∙ c.in-Ok.is) c.in-Open.is

pub expression-loop-i-smaller-in-Open : goal.expression-loop-i-smaller-in-Open
expression-loop-i-smaller-in-Open t c =
    let v = running_as c.loop-i.invariant c.if-due.true in
    factor_past v.fixed v.going (sym c.factor_at.ensures ∙ c.in-Ok.is) c.loop-i-test.true

pub expression-loop-i-preserved-in-Open : goal.expression-loop-i-preserved-in-Open
expression-loop-i-preserved-in-Open t c =
    let d = c.if-due.true in
    let v = running_as c.loop-i.invariant d in
    rw c.push.ensures (running_as (record { fixed = v.fixed; going = opened v.fixed v.going (sym c.factor_at.ensures ∙ c.in-Ok.is) c.in-Open.is; kept = v.kept }) (sym d))

pub expression-put_push-to-requires : goal.expression-put_push-to-requires
expression-put_push-to-requires t c =
    let v = running_as c.loop-i.invariant c.if-due.true in
    literal_fits v.fixed v.going (sym c.factor_at.ensures ∙ c.in-Ok.is) _ c.in-Literal.is

pub expression-loop-i-smaller-in-Literal : goal.expression-loop-i-smaller-in-Literal
expression-loop-i-smaller-in-Literal t c =
    let v = running_as c.loop-i.invariant c.if-due.true in
    factor_past v.fixed v.going (sym c.factor_at.ensures ∙ c.in-Ok.is) c.loop-i-test.true

pub expression-loop-i-preserved-in-Literal : goal.expression-loop-i-preserved-in-Literal
expression-loop-i-preserved-in-Literal t c =
    let v = running_as c.loop-i.invariant c.if-due.true in
    let f = sym c.factor_at.ensures ∙ c.in-Ok.is in
    let e = c.put_push-to.ensures in
    let q = c.in-Literal.is in
    record { fixed = v.fixed; going = literal_goes v.fixed v.going f _ q e; kept = kept_put v.kept e (literal_fits v.fixed v.going f _ q) }

pub expression-binding-to-requires : goal.expression-binding-to-requires
expression-binding-to-requires t c =
    let v = running_as c.loop-i.invariant c.if-due.true in
    let f = sym c.factor_at.ensures ∙ c.in-Ok.is in
    let q = c.in-Name.is in
    let b = c.in-Name.b in
    let l = name_below v.fixed v.going f b q in (
      omega (arith, l),
      ((omega (arith, l, c.requires.means_tree.few), name_stands v.fixed v.going f b q), (name_fits v.fixed v.going f b q, v.kept)),
    )

pub expression-loop-i-smaller-in-Name : goal.expression-loop-i-smaller-in-Name
expression-loop-i-smaller-in-Name t c =
    let v = running_as c.loop-i.invariant c.if-due.true in
    factor_past v.fixed v.going (sym c.factor_at.ensures ∙ c.in-Ok.is) c.loop-i-test.true

pub expression-loop-i-preserved-in-Name : goal.expression-loop-i-preserved-in-Name
expression-loop-i-preserved-in-Name t c =
    let v = running_as c.loop-i.invariant c.if-due.true in
    let e = c.binding-to.ensures in
    record { fixed = v.fixed; going = name_goes v.fixed v.going (sym c.factor_at.ensures ∙ c.in-Ok.is) _ c.in-Name.is e.wrote; kept = e.keeps }

pub expression-operate-next-requires : goal.expression-operate-next-requires
expression-operate-next-requires t c =
    let v = running_as c.loop-i.invariant c.if-due.false in
    turn_ready v.fixed v.going c.loop-i-test.true

pub expression-loop-i-preserved : goal.expression-loop-i-preserved
expression-loop-i-preserved t c =
    let v = running_as c.loop-i.invariant c.if-due.false in
    let e = c.operate-next.ensures in
    record { fixed = v.fixed; going = turn_goes v.fixed v.going e; kept = kept_put v.kept e.put (turn_room v.fixed v.going) }

pub expression-write-requires-clause-room : goal.expression-write-requires-clause-room
expression-write-requires-clause-room t c = let v = c.loop-i.invariant in end_fits v.fixed v.going c.loop-i-test.false

pub expression-returns : goal.expression-returns
expression-returns t c =
    let v = c.loop-i.invariant in
    let l = c.loop-i-test.false in
    let e = c.write.ensures.put in
    record { wrote = end_put v.fixed v.going l e; keeps = kept_put v.kept e (end_fits v.fixed v.going l) }
