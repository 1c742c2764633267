-- `assembler::stem::stem_fits` meets its contract: test by test.
use native.Mathlib.Omega.{arith}
use mathlib.Core.Path.{sym, ◌∙◌}
use borrow.Author.Tests.{eqb-false}
use Rattle.assembler.proofs.Stems.{stem_lines}
use Rattle.assembler.proofs.stem.stem_fits.Goals as goal

pub returns-then-is_utf8 : goal.returns-then-is_utf8
returns-then-is_utf8 c =
    let s = c.args.stem.now in
    stem_lines s (eqb-false _ _ (sym c.is_empty.ensures ∙ c.if-is_empty.false)) (omega arith) (sym c.is_utf8.ensures ∙ c.if-is_utf8.true) c.contains.ensures.value
