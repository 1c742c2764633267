-- `pieces::add_bytes` meets its contract: none of the bytes, or those that have room.
use Rattle.pieces.proofs.Laws.{add_none, add_fitting}
use Rattle.pieces.proofs.add_bytes.Goals as goal

pub returns-then-out-len : goal.returns-then-out-len
returns-then-out-len c = add_none _ _ _ c.if-out-len.true

pub returns : goal.returns
returns c = add_fitting _ _ _ _ _ c.if-out-len.false (rw (← c.min-fitting.ensures) c.put_bytes.ensures)
