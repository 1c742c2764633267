-- `search::find_string` meets its contract: p stands at no place of a block that is passed, and from `stop` on there is no room for it.
use Rattle.std.proofs.Common.{◌≡◌, ◌+◌, ◌-◌, ◌*◌, ◌/◌, length, ap, sym, ◌∙◌, arith, rules, tests}
use Rattle.std.specs.Option.{option_or}
use Rattle.base.specs.Code.Skips.{Skips}
use Rattle.search.specs.First.{first_at}
use Rattle.search.proofs.Laws.{no_room, or_nothing, skip_no}
use Rattle.search.proofs.find_string.Goals as goal
use Rattle.search.proofs.find_string.Goals.{then-any_at+in_default, else-any_at}

pub loop-n-preserved : goal.loop-n-preserved
loop-n-preserved c =
    let a = c.args in
    let f = first_at a.p.now a.s.now in
    let i = a.at + 16 * c.loop-n.n in
    let z : i + 16 ≡ a.at + 16 * (c.loop-n.n + 1) = omega arith in
    let passed : Skips f i (i + 16) =
    elim c.if-any_at.branch [
      | then-any_at+in_default w ↦ rw w.in_default.is at w.string_before.ensures
      | else-any_at w ↦ skip_no a.p.now a.s.now i (i + 16) (omega arith) (λ k l g. let q = c.any_at.ensures.none w.if-any_at.false k l g in search (rules, tests))
    ] in
    c.loop-n.invariant ∙ passed ∙ ap f z

pub returns : goal.returns
returns c =
    let a = c.args in
    let f = first_at a.p.now a.s.now in
    let r = c.string_before-2.result in
    let stop = length a.s.now - length a.p.now + 1 in
    let z : a.at + 16 * c.loop-n.n ≡ a.at + 16 * ((stop - a.at) / 16) = omega arith in
    sym (c.loop-n.invariant ∙ ap f z ∙ c.string_before-2.ensures ∙ ap (option_or r) (no_room a.p.now a.s.now stop (omega arith)) ∙ or_nothing r)
