-- `decimal::digits_at` meets its contract: the zeros that are passed, and the digits behind them.
use native.Mathlib.Omega.{arith}
use Rattle.decimal.proofs.Runs.{behind_fits, behind_zeros}
use Rattle.decimal.proofs.digits_at.Goals as goal

pub overflow_add-len : goal.overflow_add-len
overflow_add-len c = omega (arith, behind_fits _ _ _ _ c.pass_zeros-first.ensures c.few_digits_at-run.ensures)

pub returns : goal.returns
returns c = behind_zeros _ _ _ _ c.pass_zeros-first.ensures c.few_digits_at-run.ensures
