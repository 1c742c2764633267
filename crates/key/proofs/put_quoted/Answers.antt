-- `key::put_quoted` meets its contract: the array starts with the key between two quotes.
use Rattle.std.proofs.Common.{◌∙◌, arith}
use Rattle.key.proofs.Quoted.{written, written_size}
use Rattle.key.proofs.put_quoted.Goals as goal

pub returns : goal.returns
returns c =
    let a = c.args in
    let p = a.pattern.now in
    let w = c.copy_from_slice.ensures.after in
    record { size = written_size p a.key.now _ _ (omega arith) w (omega arith) ∙ c.told-pattern; starts = written p a.key.now _ _ (omega arith) w (omega arith) }
