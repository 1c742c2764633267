-- `key::Sought::stands` meets its contract: between two quotes it is the key that decides, and without them nothing stands.
use Rattle.std.proofs.Common.{◌≡◌, ℕ, ◌+◌, ◌-◌, eqb, length, take, drop, ap, sym, ◌∙◌, arith, rules}
use Rattle.std.specs.Cmp.Lexicographic.{pointwise}
use Rattle.base.proofs.Tests.{by_bool, false_true, and_both}
use Rattle.search.proofs.Prefix.{starts}
use Rattle.key.proofs.Quoted.{between, opening_here, closing_here}
use Rattle.key.proofs.Sought.stands.Goals as goal

pub returns-then-s-at : goal.returns-then-s-at
returns-then-s-at c =
    let a = c.args in
    let s = a.self.s.now in
    let key = a.self.key.now in
    let n : a.at + 1 + length key - (a.at + 1) ≡ length key = omega arith in
    let e : c.eq.result ≡ pointwise eqb key (take (a.at + 1 + length key - (a.at + 1)) (drop (a.at + 1) s)) = search rules in
    e ∙ ap (λ (m : ℕ). pointwise eqb key (take m (drop (a.at + 1) s))) n ∙ starts key (drop (a.at + 1) s) ∙ between s key a.at (omega arith) c.if-s-at.true

pub returns-else-s-at : goal.returns-else-s-at
returns-else-s-at c =
    let a = c.args in
    c.if-s-at.false ∙ sym (by_bool _ (λ y. false_true (sym c.if-s-at.false ∙ and_both _ _ (opening_here a.self.key.now a.self.s.now a.at y) (closing_here a.self.key.now a.self.s.now a.at y _ (omega arith)))) (λ n. n))
