-- `body::read_body` meets its contract: the lines that the iterator gave were read, and those that it has left are to be read.
-- Assumes nothing.
use Rattle.std.proofs.Common.{refl, sym, ap, subst, ◌∙◌, rules, arith, inl, inr}
use Rattle.std.specs.Iterator.Adapters.{zip_first, zip_second}
use Rattle.std.proofs.lemmas.Result.{err_from_is_err_and}
use Rattle.lines.specs.Lines.{lines}
use Rattle.scope.specs.Part.{part}
use Rattle.body.specs.Body.{line_read}
use Rattle.scope.proofs.Loops.{turn_first, turn_done, turn_next, turn_off}
use Rattle.body.proofs.BodyLines.{lines_from, all_lines, lines_done, line_item}
use Rattle.body.proofs.BodyLoop.{line_given, none_given, line_within, line_represents}
use Rattle.body.proofs.LastReturn.{met_first, met_done, met_next, met_off}
use Rattle.body.proofs.read_body.Goals as goal

pub loop-number-init : goal.loop-number-init
loop-number-init c =
    let a = c.args in
    let s = a.contract.now in
    let z = c.into_iter-number-iterator.ensures.into_iter_gives in
    let f = c.zip-number-items.ensures.first in
    let g = c.zip-number-items.ensures.second in
    rw z (rw (f, g) (record {
      can = (tt, tt);
      finite = tt;
      text = refl;
      lines = turn_first s line_read (lines_from s a.body.end) (lines (part s a.body.start a.body.end)) a.body.start a.body.end a.state c.requires.0 (all_lines s a.body.start a.body.end c.requires.0);
      met = met_first c.requires.0;
    }))

pub read_line-requires : goal.read_line-requires
read_line-requires c =
    let a = c.args in
    let i = c.loop-number.invariant in
    let at = (zip_second c.loop-number.number-iterator).at in
    let e = line_given a.contract.now a.body.end at i.text c.in-Some.ensures.steps.1.0 in
    (line_within c.requires.0 at e, line_represents c.requires.0 at e i.lines c.requires.1)

pub loop-number-preserved : goal.loop-number-preserved
loop-number-preserved c =
    let a = c.args in
    let i = c.loop-number.invariant in
    let at = (zip_second c.loop-number.number-iterator).at in
    let s = c.in-Some.ensures.steps in
    let e = line_given a.contract.now a.body.end at i.text s.1.0 in
    let t = rw (sym s.0.0) at i.lines in
    record {
      can = (tt, tt);
      finite = tt;
      text = s.1.1.0 ∙ i.text;
      lines = rw (s.1.1.1, s.0.1) (turn_next c.requires.0 t (line_item a.contract.now a.body.start a.body.end c.requires.0 at _ e) c.read_line.ensures.0 c.in_ok-read_line.was);
      met = rw s.1.1.1 (met_next c.requires.0 i.met e c.read_line.ensures.1 c.in_ok-read_line.was);
    }

pub returns-in_err-read_line : goal.returns-in_err-read_line
returns-in_err-read_line c =
    let a = c.args in
    let i = c.loop-number.invariant in
    let at = (zip_second c.loop-number.number-iterator).at in
    let s = c.in-Some.ensures.steps in
    let e = line_given a.contract.now a.body.end at i.text s.1.0 in
    let t = rw (sym s.0.0) at i.lines in
    let p = err_from_is_err_and c.from_residual.result c.from_residual.ensures.1 in
    rw (p.1, p.2) (turn_off c.requires.0 t (line_item a.contract.now a.body.start a.body.end c.requires.0 at _ e) c.read_line.ensures.0 c.in_err-read_line.was {left = a.state}, met_off refl)

-- the numbers do not end first, as each line has a byte
pub returns : goal.returns
returns c =
    let a = c.args in
    let i = c.loop-number.invariant in
    let at = (zip_second c.loop-number.number-iterator).at in
    elim c.in-None.ensures.steps [
      | inl u ↦
          let w = c.requires.0 in
          let t = i.lines in absurd (omega (arith, u.1.0, t.counted, t.high, w.fits))
      | inr u ↦
          let e = lines_done a.contract.now a.body.start a.body.end c.requires.0 at (none_given a.contract.now a.body.end at i.text u.1.0) in
          (turn_done c.requires.0 i.lines e, met_done c.requires.0 i.met e)
    ]
