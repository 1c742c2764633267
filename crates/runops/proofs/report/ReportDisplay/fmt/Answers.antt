-- A report is displayed as its two lines.
-- Assumes nothing.
use Rattle.std.proofs.Common.{arith, refl}
use Rattle.std.proofs.lemmas.Grind.{put_two}
use Rattle.runops.proofs.Written.{report_written}
use Rattle.runops.proofs.report.ReportDisplay.fmt.Goals as goal

pub returns-clause-writes : goal.returns-clause-writes
returns-clause-writes g c = λ p q.
    let h = c.in_ok-writeln.ensures.writes p refl in
    put_two _ _ _ _ _ _ _ h (c.writeln-2.ensures.writes h.plain q) (report_written c.args.self.now (omega arith) (omega arith) (omega arith) (omega arith) (omega arith) (omega arith))
