-- `kmp::fill` meets its contract: each byte that agrees gives one shift more, and where one differs p is shifted over itself.
use mathlib.Core.Path.{refl}
use Rattle.kmp.proofs.Filling.{matched, moved, slid, shift_of}
use native.Mathlib.Omega.{arith}
use Prim.Native.Nat.{◌+◌}
use Rattle.kmp.proofs.fill.Goals as goal
use Rattle.kmp.proofs.fill.Goals.{After-from-e}

pub loop-c-preserved-then-p-c : goal.loop-c-preserved-then-p-c
loop-c-preserved-then-p-c c =
    let l = c.loop-c in
    matched c.args.p.now l.shifts l.c l.j l.invariant (omega arith) (omega arith) (l.j + 1) refl c.if-p-c.true

pub loop-c-preserved-then-j-eq0 : goal.loop-c-preserved-then-j-eq0
loop-c-preserved-then-j-eq0 c =
    let l = c.loop-c in
    moved c.args.p.now l.shifts l.c l.j l.invariant (omega arith) (omega arith) c.if-p-c.false c.if-j-eq0.true

pub loop-c-preserved : goal.loop-c-preserved
loop-c-preserved c =
    let l = c.loop-c in
    slid c.args.p.now l.shifts l.c l.j l.invariant (omega arith) (omega arith) c.from-e.result c.if-p-c.false (rw c.from-e.ensures (shift_of c.args.p.now l.shifts l.c l.j l.invariant (omega arith) (omega arith) (omega arith)))
