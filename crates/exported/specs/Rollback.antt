-- What a C caller sees of a run or a transition that is refused.
use Rattle.std.specs.Prelude.{ℕ, ◌≤◌, ◌≡◌, List, length, replicate}
use Rattle.perform.specs.Call.{Call}

-- the call x has given the number r, and these are the buffers afterwards
pub record RolledBack (x : Call) (stack work storage : List ℕ) (r : ℕ) : Type 0 where
  pub least : 34 ≤ r
  pub most : r ≤ 51
  -- every word of the storage buffer is what it was
  pub kept : storage ≡ x.storage
  -- 34 to 45: stack and work are, too; 46 to 51: they are zero over their whole lengths
  pub tested : r ≤ 45 → (stack ≡ x.stack) × (work ≡ x.work)
  pub undone : 46 ≤ r → (stack ≡ replicate (length x.stack) 0) × (work ≡ replicate (length x.work) 0)
