-- `writer::put_operation` meets its contract: a word that an operand follows.
use mathlib.Core.List.{[], ◌∷◌, ◌++◌, append_assoc}
use mathlib.Core.Path.{sym, ◌∙◌}
use native.Mathlib.Omega.{arith}
use lib.ListN.{length-append}
use Rattle.decimal.specs.Decimal.{decimal}
use Rattle.writer.proofs.Pieces.{overwrites_then}
use Rattle.writer.proofs.put_operation.Goals as goal

pub returns : goal.returns
returns c =
    let w = c.word.result.now in
    let f = sym c.has_operand.ensures ∙ c.if-not-has_operand.false in
    let h = rw (f, ← c.word.ensures.is) at c.requires in
    let p = overwrites_then c.put_bytes-end.ensures (omega (arith, length-append (w ++ 32 ∷ decimal c.args.operand) (10 ∷ []), length-append w (32 ∷ decimal c.args.operand))) c.put_with.ensures in
    rw (f, ← c.word.ensures.is) (rw (← append_assoc w (32 ∷ decimal c.args.operand) (10 ∷ [])) at p)
