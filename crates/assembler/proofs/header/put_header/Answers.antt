-- `assembler::header::put_header` meets its contract: its five pieces.
use Rattle.assembler.proofs.Outputs.{header_put}
use Rattle.assembler.proofs.header.put_header.Goals as goal

pub returns : goal.returns
returns c =
    let a = c.args in
    header_put a.stem.now a.expected c.requires c.put_bytes-name.ensures c.put_bytes-line.ensures c.put_bytes-value.ensures c.put_decimal-end.ensures c.put_bytes.ensures
