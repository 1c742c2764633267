-- `lines::before_return` meets its contract: by the byte before the line feed, if the line has one.
use Rattle.std.proofs.Common.{◌≡◌, ◌+◌, ◌-◌, get_or, ap, sym, ◌∙◌, arith}
use borrow.Author.Tests.{le-ltb, eqb-true, eqb-false}
use Rattle.base.proofs.Tests.{false_true}
use Rattle.lines.specs.Code.Visits.{feed_from}
use Rattle.lines.proofs.Cursor.{bare, returned, plain}
use Rattle.lines.proofs.before_return.Goals as goal
use Rattle.lines.proofs.before_return.Goals.{then-at-feed, else-at-feed}

pub returns-then-returned : goal.returns-then-returned
returns-then-returned c =
    let a = c.args in
    let s = a.s.now in
    let at = a.at in
    let q : a.feed ≡ feed_from s at = c.requires.1.1 in
    elim c.if-at-feed.branch [
      | then-at-feed w ↦
          let k = a.feed - (at + 1) in
          let p : at + k ≡ a.feed - 1 = omega arith in
          let b = eqb-true _ _ (sym w.returned-is ∙ c.if-returned.true) in
          let z = returned s at (omega arith) (omega arith) k (omega arith) (ap (λ i. get_or s i 0) p ∙ (omega arith)) in omega arith
      | else-at-feed w ↦ false_true (sym (w.returned-is ∙ le-ltb at a.feed (omega arith)) ∙ c.if-returned.true)
    ]

pub returns-else-returned : goal.returns-else-returned
returns-else-returned c =
    let a = c.args in
    let s = a.s.now in
    let at = a.at in
    let q : a.feed ≡ feed_from s at = c.requires.1.1 in
    elim c.if-at-feed.branch [
      | then-at-feed w ↦
          let k = a.feed - (at + 1) in
          let p : at + k ≡ a.feed - 1 = omega arith in
          let n = eqb-false _ _ (sym w.returned-is ∙ c.if-returned.false) in
          let z = plain s at (omega arith) (omega arith) k (omega arith) (λ e. let x = ap (λ i. get_or s i 0) p in n (omega arith)) in omega arith
      | else-at-feed w ↦
          let z = bare s at (omega arith) (omega arith) (omega arith) in omega arith
    ]
