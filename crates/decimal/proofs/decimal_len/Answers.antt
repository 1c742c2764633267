-- `decimal::decimal_len` meets its contract: by the logarithm.
use Prim.Native.Nat.{ℕ, ◌*◌, ◌^◌, ◌<◌, ◌≤◌}
use mathlib.Core.Path.{sym, subst}
use Rattle.decimal.proofs.Laws.{length_log}
use Rattle.decimal.proofs.decimal_len.Goals as goal

pub returns : goal.returns
returns c =
    let k = c.ilog10.result in
    sym (length_log c.args.n k
    (subst (λ (m : ℕ). 10 ^ k ≤ m) c.max.ensures c.ilog10.ensures.power_le)
    (subst (λ (m : ℕ). m < 10 * 10 ^ k) c.max.ensures c.ilog10.ensures.next_power_gt))
