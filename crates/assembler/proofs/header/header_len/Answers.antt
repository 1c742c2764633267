-- `assembler::header::header_len` meets its contract: the pieces' lengths.
use native.Mathlib.Omega.{arith}
use Rattle.decimal.proofs.Laws.{length_word}
use Rattle.assembler.proofs.header.header_len.Goals as goal

pub overflow_add-result-2 : goal.overflow_add-result-2
overflow_add-result-2 c = omega (arith, length_word c.args.expected (omega arith), c.decimal_len.ensures, c.requires)
