-- `assemble::assemble` is safe: its buffer is lent whole. `search` would compute the 1,048,576 entries.
-- Assumes nothing.
use Prim.Native.Nat.{ℕ}
use mathlib.Core.Path.{sym}
use lib.ListN.{length-replicate}
use Rattle.assemble.proofs.assemble.Goals as goal

pub slice_bounds-assemble_into-end : goal.slice_bounds-assemble_into-end
slice_bounds-assemble_into-end g c = sym (length-replicate {A = ℕ} 1048576 0)
