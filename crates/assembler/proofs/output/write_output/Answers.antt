-- `assembler::output::write_output` meets its contract: the room first, then header, operations and Halt.
use native.Mathlib.Omega.{arith}
use Rattle.decimal.proofs.Laws.{length_word}
use Rattle.writer.proofs.Pieces.{overwrites_length, overwrites_then}
use Rattle.assembler.proofs.Outputs.{header-length, means, text_size, no_room, written_whole}
use Rattle.assembler.proofs.output.write_output.Goals as goal
use Rattle.assembler.proofs.output.write_output.Goals.{then-room-frame-via-then-room-frame, then-room-frame-via-else-room-frame+then-room-frame-2}

pub overflow_add-frame : goal.overflow_add-frame
overflow_add-frame c =
    let a = c.args in
    omega (arith, c.header_len-frame.ensures, header-length a.stem.now a.checked.expected, length_word a.checked.expected (omega arith), c.requires.short)

pub returns-then-room-frame : goal.returns-then-room-frame
returns-then-room-frame c =
    let a = c.args in
    let e = c.header_len-frame.ensures in
    record { is = λ vector o acc f. no_room acc a.stem.now a.out.now f (elim c.then-room-frame.branch [ then-room-frame-via-then-room-frame w ↦ omega (arith, e, w.if-room-frame) | then-room-frame-via-else-room-frame+then-room-frame-2 w ↦ omega (arith, e, w.if-room-frame, w.if-room-frame-2) ]) }

pub emit-halt-requires-clause-means_tree : goal.emit-halt-requires-clause-means_tree
emit-halt-requires-clause-means_tree c = means c.requires.accepts

pub emit-halt-requires-clause-end_in_bounds : goal.emit-halt-requires-clause-end_in_bounds
emit-halt-requires-clause-end_in_bounds c =
    let z = text_size c.requires.accepts in
    let e = c.header_len-frame.ensures in
    let i = c.if-room-frame.false in
    let j = c.if-room-frame-2.false in
    let w = c.put_header-first.ensures in
    omega (arith, z, e, i, j, w.next, overwrites_length w (omega (arith, e, i)))

pub put_bytes-written-requires : goal.put_bytes-written-requires
put_bytes-written-requires c =
    let z = text_size c.requires.accepts in
    let e = c.header_len-frame.ensures in
    let i = c.if-room-frame.false in
    let j = c.if-room-frame-2.false in
    let w = c.put_header-first.ensures in
    let l = overwrites_length w (omega (arith, e, i)) in
    let v = c.emit-halt.ensures in
    omega (arith, z, e, i, j, w.next, l, v.next, overwrites_length v (omega (arith, z, e, i, j, w.next, l)))

pub returns : goal.returns
returns c =
    let a = c.args in
    let z = text_size c.requires.accepts in
    let e = c.header_len-frame.ensures in
    let i = c.if-room-frame.false in
    let j = c.if-room-frame-2.false in
    let w = c.put_header-first.ensures in
    let v = c.emit-halt.ensures in
    record { is = λ vector o acc f. written_whole acc a.stem.now a.out.now f (omega (arith, e, i, j)) (overwrites_then w (omega (arith, e, i)) v) c.put_bytes-written.ensures }
