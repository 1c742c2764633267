-- `search::stands` meets its contract: by what is left from the offset on.
use Rattle.std.proofs.Common.{◌≡◌, ◌∙◌, ℕ, ◌+◌, ◌-◌, eqb, length, take, drop, ap, arith, rules}
use Rattle.std.specs.Cmp.Lexicographic.{pointwise}
use Rattle.search.proofs.Prefix.{starts}
use Rattle.search.proofs.stands.Goals as goal

pub returns-then-s-at : goal.returns-then-s-at
returns-then-s-at c =
    let a = c.args in
    let p = a.p.now in
    let t = drop a.at a.s.now in
    let n : a.at + length p - a.at ≡ length p = omega arith in
    let e : c.eq.result ≡ pointwise eqb p (take (a.at + length p - a.at) t) = search rules in
    e ∙ ap (λ (m : ℕ). pointwise eqb p (take m t)) n ∙ starts p t
