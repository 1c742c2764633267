-- `runops::report::of_run` meets its contract: the report is that of the run.
-- Assumes nothing.
use Rattle.std.proofs.Common.{ℕ, ap, ◌∙◌}
use Rattle.numbered.specs.declared.Numbered.{Numbered}
use Rattle.runops.specs.declared.report.Report.{Report}
use Rattle.runops.specs.Report.{refused_with}
use Rattle.runops.proofs.Reported.{made, reported}
use Rattle.runops.proofs.report.of_run.Goals as goal

pub returns-in-Ok : goal.returns-in-Ok
returns-in-Ok c =
    let w = c.in-Ok.success in
    let top : ℕ → Report = λ t. record { refusal = 0; gas_spent = w.gas_spent; operations = w.operations; items = w.items; top = t; slots = w.state.used } in
    reported (made c.run_with_gas.ensures) c.in-Ok.is (ap top c.top.ensures)

pub returns-in-Err : goal.returns-in-Err
returns-in-Err c = reported (made c.run_with_gas.ensures) c.in-Err.is (c.refused.ensures ∙ ap (λ (n : Numbered). refused_with n.number) c.numbered.ensures)
