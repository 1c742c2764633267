-- `writer::put_with` meets its contract: three pieces.
use Rattle.writer.proofs.Lines.{line_whole}
use Rattle.writer.proofs.put_with.Goals as goal

pub returns : goal.returns
returns c = line_whole _ c.put_bytes-number.ensures c.requires c.put_decimal-end.ensures c.put_bytes.ensures
