-- `search::find` meets its contract: by the room that there is.
use Rattle.std.proofs.Common.{◌≤◌, ◌∙◌, length, ap, sym, arith}
use Rattle.base.proofs.Parts.{length_zero}
use Rattle.search.specs.First.{first_at}
use Rattle.search.proofs.Laws.{empty, no_room}
use Rattle.search.proofs.find.Goals as goal

pub returns-in_err-last : goal.returns-in_err-last
returns-in_err-last c =
    let a = c.args in
    let h : length a.p.now ≤ length a.s.now → ⊥ = c.in_err-last.ensures in
    c.from_residual.ensures ∙ sym (no_room a.p.now a.s.now a.at (omega arith))

pub returns-then-last-at : goal.returns-then-last-at
returns-then-last-at c =
    let a = c.args in
    let h = c.in_ok-last.ensures in
    sym (no_room a.p.now a.s.now a.at (omega arith))

pub returns-in-empty : goal.returns-in-empty
returns-in-empty c =
    let a = c.args in
    let h = c.in_ok-last.ensures in
    sym (ap (λ p. first_at p a.s.now a.at) (length_zero a.p.now (omega arith)) ∙ empty a.s.now a.at (omega arith))
