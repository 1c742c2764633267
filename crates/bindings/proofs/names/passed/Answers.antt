-- `bindings::names::passed` meets its contract: block by block.
use Rattle.std.proofs.Common.{◌≡◌, ℕ, ◌-◌, eqb, length, take, ap, sym, ◌∙◌, arith}
use Rattle.std.proofs.lemmas.List.{take-take}
use Rattle.std.specs.List.{list_any}
use Rattle.base.proofs.Lists.{none_there}
use Rattle.bindings.proofs.Tags.{one_block}
use Rattle.bindings.proofs.names.passed.Goals as goal

pub loop-older-preserved : goal.loop-older-preserved
loop-older-preserved c =
    let a = c.args in
    let t = a.tags.now in
    let l = c.loop-older in
    let r = l.rest.now in
    let e = c.in-Some.ensures.cases in
    let n = length r - 16 in
    let z : n ≡ length c.in-Some.older.now = omega (arith, e.2) in (
      omega (arith, e.2, l.invariant.0),
      e.0 ∙ ap (take n) l.invariant.1 ∙ take-take n (length r) t (omega arith) ∙ ap (λ (m : ℕ). take m t) z,
      λ k g h. one_block a.tag t r n (omega (arith, e.2)) l.invariant.1 (ap (list_any (λ y. eqb y a.tag)) (sym e.1) ∙ none_there a.tag c.in-Some.block.now (sym c.lacks.ensures ∙ c.if-not-lacks.false)) l.invariant.2 k (omega (arith, g)) h,
    )
