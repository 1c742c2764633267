-- `utf8::all_follow` meets its contract: each byte so far follows the three before it.
use Rattle.std.proofs.Common.{◌≡◌, ◌+◌, ◌-◌, ℕ, true, length, get_or, ap, ◌∙◌, arith, rules}
use Rattle.std.proofs.lemmas.Iterator.{window_more}
use Rattle.std.specs.Slice.Iter.{windows_rest}
use Rattle.base.proofs.Tests.{and_left, and_right, by_leb}
use Rattle.utf8.specs.Code.Windows.{follows_at}
use Rattle.utf8.proofs.all_follow.Goals as goal

pub loop-w-preserved : goal.loop-w-preserved
loop-w-preserved c =
    let s = c.args.s.now in
    let l = c.loop-w in
    let h = window_more s l.w-iterator c.next.new.self _ _ c.in-Some.is c.next.ensures.steps (search rules) (search rules) (search rules) in
    let i = length s - length (windows_rest l.w-iterator) in
    let y : i + 0 ≡ i = omega arith in
    let first = h.3 0 0 (search rules) ∙ ap (λ (k : ℕ). get_or s k 0) y in
    let second = h.3 1 0 (search rules) in
    let third = h.3 2 0 (search rules) in
    let fourth = h.3 3 0 (search rules) in
    let f : c.does_follow-all.result ≡ true → follows_at s i ≡ true = λ e. search (rules, first, second, third, fourth) in (
      search rules,
      omega (arith, h.0),
      h.1,
      λ e k g. by_leb (k + 1) i (λ m. l.invariant.3 (and_left l.all _ e) k (omega arith)) (λ m. let z : i ≡ k = omega (arith, h.0) in rw z at (f (and_right l.all _ e))),
    )
