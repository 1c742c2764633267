-- `search::byte_before` meets its contract: the byte stands at no place that is passed.
use Rattle.std.proofs.Common.{◌≡◌, ◌<◌, ◌∙◌, [], ◌∷◌, ◌+◌, ◌-◌, length, take, drop, ap, sym, arith, rules, tests, MatchOption}
use Rattle.std.specs.List.{AllWithin, HoldsAt}
use Rattle.std.specs.Option.{option_or}
use Rattle.std.proofs.lemmas.Iterator.{IsFirst-from_position, YieldsList-from_slice}
use Rattle.base.proofs.Parts.{length_part}
use Rattle.search.specs.First.{first_at}
use Rattle.search.proofs.Laws.{passed, found_at}
use Rattle.search.proofs.byte_before.Goals as goal
use Rattle.search.proofs.byte_before.Goals.{After-position}

-- what `position` found
first : (c : After-position) → let a = c.args in let t = take (a.end - a.at) (drop a.at a.s.now) in
    MatchOption c.position.result (AllWithin (λ x. x ≡ a.b → ⊥) t 0 (length t)) (λ i. (i < length t) × HoldsAt (λ x. x ≡ a.b) t i × AllWithin (λ x. x ≡ a.b → ⊥) t 0 i)
first c =
    let b = c.args.b in
    IsFirst-from_position _ _ _ (λ x. x ≡ b) (λ x. x ≡ b → ⊥) c.position.ensures.ran (YieldsList-from_slice _ cc) (λ x q k. search (rules, tests)) (λ x q k. search (rules, tests))

pub returns-in_err-k : goal.returns-in_err-k
returns-in_err-k c =
    let a = c.args in
    let s = a.s.now in
    let f = first_at (a.b ∷ []) s in
    let l = length_part s a.at a.end (omega arith) (omega arith) in
    let z : a.at + (a.end - a.at) ≡ a.end = omega arith in
    let q = rw c.in_err-k.was at (first (goal.at.returns-in_err-k c).After-position) in
    passed a.b (a.end - a.at) s a.at (omega arith) (a.end - a.at) (omega arith) (λ k h. q k 0 (omega arith) (omega arith))
    ∙ ap f z ∙ ap (λ r. option_or r (f a.end)) (sym c.from_residual.ensures)

pub returns : goal.returns
returns c =
    let a = c.args in
    let s = a.s.now in
    let l = length_part s a.at a.end (omega arith) (omega arith) in
    let q = rw c.in_ok-k.was at (first (goal.at.returns c).After-position) in
    found_at a.b (a.end - a.at) s a.at (omega arith) c.in_ok-k.k (omega (arith, q.0)) (q.1 0) (λ k h. q.2 k 0 (omega arith) h)
