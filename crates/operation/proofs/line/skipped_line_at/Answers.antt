-- `line::skipped_line_at` meets its contract: White_Space alone and remarks are skipped.
use Prim.Native.Nat.{ℕ, ◌+◌, ◌<◌}
use mathlib.Core.Path.{sym, ap, subst, ◌∙◌}
use lib.ListN.{length}
use Rattle.operation.specs.declared.line.LineRead.TheVariants.{Skip}
use Rattle.operation.proofs.BlankLines.{indent, blank_read, remark_read}
use Rattle.operation.proofs.line.skipped_line_at.Goals as goal

pub returns-then-stands_at : goal.returns-then-stands_at
returns-then-stands_at c =
    let a = c.args in
    λ rule plain line. blank_read a.text.now a.at a.first (indent _ _ _ c.requires) rule line (sym c.stands_at.ensures ∙ c.if-stands_at.true)

pub returns-then-feed-text : goal.returns-then-feed-text
returns-then-feed-text c =
    let a = c.args in
    let text = a.text.now in
    let f = c.line_feed-feed.ensures in
    λ rule plain line. remark_read text a.at a.first (indent _ _ _ c.requires) rule line
    (sym c.stands_at-2.ensures ∙ c.if-not-stands_at.false) (subst (λ (n : ℕ). n < length text) f c.if-feed-text.true)
    ∙ ap (λ (n : ℕ). record { read = Skip; next = n + 1 }) (sym f)
