-- `ops::nth_line` meets its contract: the line behind so many others.
use Rattle.std.proofs.Common.{refl, sym, ◌-◌, ◌∙◌, arith}
use Rattle.ops.proofs.LineStarts.{numbered}
use Rattle.ops.proofs.NthLine.{nth_is}
use Rattle.ops.proofs.nth_line.Goals as goal

pub returns : goal.returns
returns c =
    let text = c.args.text.now in
    let line = c.args.line in
    let q = c.nth.ensures.ran in
    nth_is text q.0 (line - 1) (record { text = c.args.text; at = 0 }) q.1.0 c.nth.new.self c.nth.result refl q.1.1 q.1.2 q.2
    ∙ sym (numbered text line (sym c.is_utf8.ensures ∙ c.if-not-is_utf8.false) c.if-line-eq0.false)
