-- `ops::pass` meets its contract: what was passed is counted, and is in the buffers where it writes; the lines left hold the rest.
use native.Mathlib.Omega.{arith}
use Rattle.operation.specs.Line.{from_str}
use Rattle.ops.proofs.FirstPass.{onwards, moved}
use Rattle.ops.proofs.PassLine.{pass_skip, pass_full, pass_left, pass_written}
use Rattle.ops.proofs.pass.Goals as goal
use Rattle.ops.proofs.pass.Goals.{then-writing, else-writing}

pub loop-at-smaller-in-Skip : goal.loop-at-smaller-in-Skip
loop-at-smaller-in-Skip c =
    let o = onwards c.loop-at.invariant.scanned.stands from_str c.loop-at-test.true c.line_read_at-reached.result c.line_read_at-reached.ensures in
    let w = (moved c.loop-at.invariant.scanned.stands from_str c.loop-at-test.true c.line_read_at-reached.result c.line_read_at-reached.ensures).within in omega arith

pub loop-at-preserved-in-Skip : goal.loop-at-preserved-in-Skip
loop-at-preserved-in-Skip c = pass_skip c.loop-at.invariant c.loop-at-test.true c.line_read_at-reached.result c.line_read_at-reached.ensures c.in-Skip.is

pub returns-then-n-room : goal.returns-then-n-room
returns-then-n-room c = pass_full c.loop-at.invariant c.loop-at-test.true c.line_read_at-reached.result c.line_read_at-reached.ensures _ _ c.in-Op.is c.if-n-room.true

pub loop-at-smaller : goal.loop-at-smaller
loop-at-smaller c =
    let o = onwards c.loop-at.invariant.scanned.stands from_str c.loop-at-test.true c.line_read_at-reached.result c.line_read_at-reached.ensures in
    let w = (moved c.loop-at.invariant.scanned.stands from_str c.loop-at-test.true c.line_read_at-reached.result c.line_read_at-reached.ensures).within in omega arith

pub loop-at-preserved : goal.loop-at-preserved
loop-at-preserved c =
    elim c.if-writing.branch [
      | then-writing w ↦
          rw (w.kinds-is, w.operands-is)
          (pass_written c.loop-at.invariant c.loop-at-test.true c.line_read_at-reached.result c.line_read_at-reached.ensures _ _ c.in-Op.is c.if-n-room.false w.if-writing.true)
      | else-writing w ↦
          rw (w.kinds-is, w.operands-is)
          (pass_left c.loop-at.invariant c.loop-at-test.true c.line_read_at-reached.result c.line_read_at-reached.ensures _ _ c.in-Op.is c.if-n-room.false w.if-writing.false)
    ]
