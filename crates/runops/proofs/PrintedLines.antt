-- How long the printed lines are.
use Prim.Native.Nat.{ℕ, ◌+◌, ◌^◌, ◌<◌, ◌≤◌}
use mathlib.Core.List.{List, [], ◌∷◌, ◌++◌}
use native.Mathlib.Omega.{arith}
use lib.ListN.{length, length-append}
use Rattle.base.specs.Ascii.{ascii}
use Rattle.decimal.specs.Decimal.{decimal}
use Rattle.decimal.proofs.Laws.{length_word}
use Rattle.runops.specs.declared.report.Report.{Report}
use Rattle.runops.specs.Report.{spaced, printed}

longer : (x : List ℕ) (n k : ℕ) → n < 2 ^ 64 → length x ≤ k → length (x ++ spaced n) ≤ k + 21
longer x n k h l = omega (arith, length-append x (spaced n), length_word n h)

pub printed_short : (r : Report) → r.refusal < 2 ^ 64 → r.gas_spent < 2 ^ 64 → r.operations < 2 ^ 64 → r.items < 2 ^ 64 → r.top < 2 ^ 64 → r.slots < 2 ^ 64 → length (printed r) ≤ 171
printed_short r a b c d e f =
    let n = ascii "refusal gas_spent operations items top slots\n" in
    let x0 = n ++ decimal r.refusal in
    let l0 : length x0 ≤ 65 = omega (arith, length-append n (decimal r.refusal), length_word r.refusal a) in
    let x1 = x0 ++ spaced r.gas_spent in
    let x2 = x1 ++ spaced r.operations in
    let x3 = x2 ++ spaced r.items in
    let x4 = x3 ++ spaced r.top in
    let x5 = x4 ++ spaced r.slots in
    let l5 = longer x4 r.slots 149 f (longer x3 r.top 128 e (longer x2 r.items 107 d (longer x1 r.operations 86 c (longer x0 r.gas_spent 65 b l0)))) in
    omega (arith, length-append x5 (10 ∷ []), l5)
