-- What 34 leaves to be relied on. The contracts of helpers use it, and crate `relied`.
use Rattle.std.specs.Prelude.{◌≤◌, ◌≡◌, length}
use Rattle.perform.specs.Call.{Call}

pub record Lent (x : Call) : Type 0 where
  pub program : length x.kinds ≡ length x.operands
  pub stack : 4096 ≤ length x.stack
  pub same : length x.work ≡ length x.storage
  pub within : x.state.used ≤ length x.storage
