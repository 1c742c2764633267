-- `Lines::next` meets its contract: each line ends behind its start, so fewer bytes are left.
use Rattle.std.proofs.Common.{sym, ◌∙◌, arith}
use Rattle.lines.proofs.Cursor.{step_line}
use Rattle.lines.proofs.LinesIterator.next.Goals as goal

pub returns-clause-goes : goal.returns-clause-goes
returns-clause-goes c =
    let i = step_line c.args.self.now.text.now c.args.self.now.at c.in_ok-line.line (sym c.line_at.ensures ∙ c.in_ok-line.was) in
    record { on = λ f. (tt, tt, omega (arith, i.on, i.fits)); keeps = tt; rests = λ f. tt }
