-- `ops::parse_ops` meets its contract: what is refused is refused before anything is written.
use mathlib.Core.Path.{sym, ◌∙◌}
use Rattle.ops.proofs.WholeText.{is_good}
use Rattle.ops.proofs.parse_ops.Goals as goal

pub pass-requires-2 : goal.pass-requires-2
pass-requires-2 c =
    let a = c.args in
    λ _. is_good a.text.now a.kinds.now a.operands.now (sym c.is_utf8.ensures ∙ c.if-not-is_utf8.false) _ _ c.pass.result c.pass.ensures _ c.in_ok-pass.was
