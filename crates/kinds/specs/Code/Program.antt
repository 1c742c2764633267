-- A program in the two lent buffers that hold it.
use Rattle.std.specs.Prelude.{◌≡◌, length}
use Rattle.kinds.specs.declared.Program.{Program}

-- the two are of one length
abbrev pub Paired : Program → Type 0
Paired p = length p.kinds.now ≡ length p.operands.now
