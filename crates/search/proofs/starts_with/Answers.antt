-- `search::starts_with` meets its contract: past the end of s nothing is left, as at the end.
use Rattle.std.proofs.Common.{◌≡◌, ◌∙◌, ap, ℕ, length, drop, drop_of_length-le, sym, arith}
use Rattle.base.proofs.Parts.{take-length-drop}
use Rattle.base.proofs.Tests.{by_leb}
use Rattle.search.specs.First.{prefix_of}
use Rattle.search.proofs.Prefix.{starts}
use Rattle.search.proofs.starts_with.Goals as goal

pub returns : goal.returns
returns c =
    let a = c.args in
    let s = a.s.now in
    let i = c.min.result in
    c.starts_with.ensures.value ∙ starts a.p.now _
    ∙ ap (prefix_of a.p.now) (take-length-drop s i
    ∙ by_leb a.at (length s)
    (λ h. let z : i ≡ a.at = omega arith in ap (λ (j : ℕ). drop j s) z)
    (λ h. drop_of_length-le s {i = i} (omega arith) ∙ sym (drop_of_length-le s {i = a.at} (omega arith))))
