-- `path::last_byte` meets its contract: by what `rposition` found.
use Rattle.std.proofs.Common.{◌≡◌, ℕ, ◌<◌, length, get_or, MatchOption, rules, tests}
use Rattle.path.proofs.Laws.{last_found}
use Rattle.path.proofs.last_byte.Goals as goal

pub returns : goal.returns
returns c =
    let a = c.args in
    let s = a.s.now in
    let r = c.rposition.result in
    let f : MatchOption r ((k : ℕ) → k < length s → get_or s k 0 ≡ a.b → ⊥) (λ i. (i < length s) × (get_or s i 0 ≡ a.b) × ((k : ℕ) → i < k → k < length s → get_or s k 0 ≡ a.b → ⊥)) = search (rules, tests) in
    last_found a.b s r f
