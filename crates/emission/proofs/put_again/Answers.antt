-- `emission::put_again` meets its contract: the piece is copied.
use native.Mathlib.Omega.{arith}
use lib.Seq.{length-slice}
use Rattle.emission.proofs.Again.{copied}
use Rattle.emission.proofs.put_again.Goals as goal

pub returns : goal.returns
returns c =
    let a = c.args in
    let b = c.requires.0 in
    let s = c.split_at_mut-before.ensures in
    record {
      is = copied a.out.now a.at a.piece.start a.piece.end b.ordered b.before (omega (arith, c.requires.1)) s.front s.back c.copy.ensures;
      next = omega (arith, length-slice a.piece.start a.piece.end a.out.now (omega (arith, b.before, c.requires.1)));
    }
