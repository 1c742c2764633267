-- `decimal::from_str` meets its contract, by how many of the bytes after the plus are digits.
use mathlib.Core.Path.{sym, ap, ◌∙◌}
use native.Mathlib.Omega.{arith}
use denote.Ref.{Bor}
use mathlib.Core.List.{List}
use Prim.Native.Nat.{ℕ}
use Rattle.decimal.specs.declared.Digits.{Digits}
use Rattle.decimal.proofs.FromStr.{behind_plus, read_none, read_other, read_all}
use Rattle.decimal.proofs.from_str.Goals as goal
use Rattle.decimal.proofs.from_str.Goals.{then-none-via-then-none, then-none-via-else-none+then-run-digits}

pub returns-then-none : goal.returns-then-none
returns-then-none c =
    let s = c.args.s.now in
    let t = c.unwrap_or-digits.result.now in
    let p = ap (λ (x : Bor (List ℕ)). x.now) c.unwrap_or-digits.ensures ∙ behind_plus c.args.s c.strip_prefix.result c.strip_prefix.ensures.cases in
    let n = ap (λ (d : Digits). d.len) c.digits_at-run.ensures in
    elim c.then-none.branch [
      | then-none-via-then-none w ↦ sym (read_none s t p (omega arith))
      | then-none-via-else-none+then-run-digits w ↦ sym (read_other s t p (omega arith))
    ]

pub returns : goal.returns
returns c =
    let p = ap (λ (x : Bor (List ℕ)). x.now) c.unwrap_or-digits.ensures ∙ behind_plus c.args.s c.strip_prefix.result c.strip_prefix.ensures.cases in
    let n = ap (λ (d : Digits). d.len) c.digits_at-run.ensures in
    ap (λ (d : Digits). d.value) c.digits_at-run.ensures
    ∙ sym (read_all c.args.s.now c.unwrap_or-digits.result.now p (λ z. omega arith) (omega arith))
