-- `utf8::step` meets its contract: the alternative of UTF8-char that its first byte has is the only one.
use Rattle.std.proofs.Common.{◌+◌}
use Rattle.base.proofs.Parts.{take-length-drop}
use Rattle.utf8.proofs.Lead.{two_at, three_at, four_at, four_short}
use Rattle.utf8.proofs.Laws.{missed, tested}
use Rattle.utf8.proofs.step.Goals as goal

pub returns-in-len1-up : goal.returns-in-len1-up
returns-in-len1-up c =
    let a = c.args in
    let n = c.in-len1-up.len_at_least in
    rw (c.then_some.ensures, c.is_two.ensures) (tested a.s.now _ a.at c.requires (take-length-drop a.s.now (a.at + 1)) 1 _ (two_at _ _ n c.if-a-le127.false c.if-a-le223.true) n)

pub returns-in-len2-up : goal.returns-in-len2-up
returns-in-len2-up c =
    let a = c.args in
    let n = c.in-len2-up.len_at_least in
    rw (c.then_some-in-len2-up.ensures, c.is_three.ensures) (tested a.s.now _ a.at c.requires (take-length-drop a.s.now (a.at + 1)) 2 _ (three_at _ _ n c.if-a-le223.false c.if-a-le239.true) n)

pub returns-in-len3-up : goal.returns-in-len3-up
returns-in-len3-up c =
    let a = c.args in
    let n = c.in-len3-up.len_at_least in
    rw (c.then_some-in-len3-up.ensures, c.is_four.ensures) (tested a.s.now _ a.at c.requires (take-length-drop a.s.now (a.at + 1)) 3 _ (four_at _ _ n c.if-a-le239.false) n)

pub returns-in_default-3 : goal.returns-in_default-3
returns-in_default-3 c =
    let a = c.args in missed a.s.now _ a.at c.requires (take-length-drop a.s.now (a.at + 1)) (four_short _ _ c.if-a-le239.false c.in_default.len_below)
