-- `Figures::of_number` meets its contract: the decimal of a `u64` has at most twenty digits.
-- Assumes nothing.
use mathlib.Core.Path.{refl, ap}
use native.Mathlib.Omega.{arith}
use Prim.Native.Nat.{ℕ, ◌+◌}
use Rattle.decimal.proofs.Laws.{length_word}
use Rattle.figures.proofs.Figures.of_number.Goals as goal

pub overflow_add-result : goal.overflow_add-result
overflow_add-result c = omega (arith, length_word c.args.n (omega arith))

pub returns-clause-tree : goal.returns-clause-tree
returns-clause-tree c =
    let e = c.decimal_len.ensures in
    let l = length_word c.args.n (omega arith) in
    record { k = refl; p = refl; value = refl; len = ap (λ (n : ℕ). 6 + n) e; short = omega arith }
