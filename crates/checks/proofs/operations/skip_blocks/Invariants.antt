use Rattle.std.proofs.Common.{◌≡◌, ℕ, ◌*◌, false, drop}
use Rattle.std.specs.Prelude.{Ok}
use Rattle.kinds.specs.declared.Program.{Program}
use Rattle.checks.specs.Verify.{operations_check}
use Rattle.checks.proofs.operations.skip_blocks.Given as goal

abbrev pub invariant-loop-block : goal.invariant-loop-block
invariant-loop-block g l =
    (n : ℕ) → ((block : Program) → goal.F-post g l.finds block false → operations_check n block.kinds.now block.operands.now ≡ Ok tt)
    → operations_check n (drop (l.from * 16) l.program.kinds.now) (drop (l.from * 16) l.program.operands.now)
    ≡ operations_check n (drop (l.block * 16) l.program.kinds.now) (drop (l.block * 16) l.program.operands.now)
