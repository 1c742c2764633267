-- `buffers::copy_part` meets its contract: the part is that of the source.
use Rattle.perform.proofs.Needed.{part_copied}
use Rattle.perform.proofs.buffers.copy_part.Goals as goal

pub returns : goal.returns
returns c =
    let a = c.args in
    part_copied a.a a.e a.s.now a.d.now c.copy.new.to c.requires.0 c.requires.1 c.requires.2 c.copy.ensures
