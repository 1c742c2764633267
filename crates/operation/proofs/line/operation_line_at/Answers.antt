-- `line::operation_line_at` meets its contract: an operation between White_Space, up to the line feed, is what the line says.
use mathlib.Core.Path.{sym, subst, ◌∙◌}
use Rattle.trim.proofs.Blanks.{Blanks, blanks, no_blanks}
use Rattle.plain_op.proofs.PlainReads.{operation-within}
use Rattle.operation.proofs.BlankLines.{indent, operation_read}
use Rattle.operation.proofs.line.operation_line_at.Goals as goal

pub returns-then-stands_at : goal.returns-then-stands_at
returns-then-stands_at c =
    let a = c.args in
    let text = a.text.now in
    let i = indent _ _ _ c.requires in
    λ rule plain line. operation_read text a.at a.first i rule line plain _ _ _ _ c.in-Some.ensures
    (no_blanks text _ (operation-within text a.first _ _ _ i.fits c.in-Some.ensures)) (sym c.stands_at.ensures ∙ c.if-stands_at.true)

pub returns-then-stands_at-2 : goal.returns-then-stands_at-2
returns-then-stands_at-2 c =
    let a = c.args in
    let text = a.text.now in
    let i = indent _ _ _ c.requires in
    λ rule plain line. operation_read text a.at a.first i rule line plain _ _ _ _ c.in-Some.ensures
    (subst (Blanks text _) (sym c.blanks_end-feed.ensures) (blanks text _ (operation-within text a.first _ _ _ i.fits c.in-Some.ensures)))
    (sym c.stands_at-2.ensures ∙ c.if-stands_at-2.true)
