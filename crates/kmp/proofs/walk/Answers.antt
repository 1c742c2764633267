-- `kmp::walk` meets its contract: where a byte differs, p stands neither there nor at a place that it is shifted past.
use mathlib.Core.Path.{sym}
use Rattle.kmp.proofs.Walking.{found, slid, ended}
use native.Mathlib.Omega.{arith}
use Rattle.kmp.proofs.walk.Goals as goal
use Rattle.kmp.proofs.walk.Goals.{After-from-shift}

pub returns-then-j-p : goal.returns-then-j-p
returns-then-j-p c =
    let a = c.args in
    let l = c.loop-c in
    sym (found a.p.now a.s.now a.at l.c l.j l.invariant c.if-s-c.true (omega arith) c.if-j-p.true)

pub loop-c-preserved : goal.loop-c-preserved
loop-c-preserved c =
    let a = c.args in
    let l = c.loop-c in
    slid a.p.now a.s.now a.at l.c l.j l.invariant c.if-s-c.false (omega arith) c.from-shift.result (rw c.from-shift.ensures (c.requires.table.shift l.j (omega arith) (omega arith)))

pub returns : goal.returns
returns c =
    let a = c.args in
    let l = c.loop-c in
    sym (ended a.p.now a.s.now a.at l.c l.j l.invariant (omega arith))
