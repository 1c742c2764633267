-- What a refused call leaves, by document 01's number of its refusal.
use Rattle.std.specs.Prelude.{ℕ, ◌≤◌, ◌<◌, ◌≡◌, length, replicate}
use Rattle.checks.specs.declared.VmError.{VmError}
use Rattle.checks.specs.declared.VmError.TheVariants.{OutOfGas}
use Rattle.checks.specs.Numbers.{vm_error_numbered}
use Rattle.perform.specs.Call.{Call}
use Rattle.perform.specs.Run.{RunResult}

abbrev pub refusal_number : VmError → ℕ
refusal_number f = (vm_error_numbered f).number

-- the refusal f of the call x, whose result is t
pub record Leaves (f : VmError) (x : Call) (t : RunResult) : Type 0 where
  -- its number is 34 to 51, and no other
  pub least : 34 ≤ refusal_number f
  pub most : refusal_number f ≤ 51
  -- state and storage are as they were
  pub state : t.state ≡ x.state
  pub storage : t.storage ≡ x.storage
  -- 34 to 45, from the tests: so are stack and work
  pub tested : refusal_number f ≤ 45 → (t.stack ≡ x.stack) × (t.work ≡ x.work)
  -- 46 to 51, from the run: stack and work are zero over their whole lengths
  pub undone : 46 ≤ refusal_number f → (t.stack ≡ replicate (length x.stack) 0) × (t.work ≡ replicate (length x.work) 0)
  -- 46 carries a price and the gas that was left: too little for it, and no more than the limit
  pub short : (price left : ℕ) → f ≡ OutOfGas price left → (left < price) × (left ≤ x.limit)
