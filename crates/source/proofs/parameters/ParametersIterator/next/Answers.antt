-- `Parameters::next` meets its contract: each parameter ends behind its place, so fewer bytes are left.
use Rattle.std.proofs.Common.{sym, ◌∙◌, arith}
use Rattle.source.proofs.Cursor.{next_is}
use Rattle.source.proofs.parameters.ParametersIterator.next.Goals as goal

pub returns-clause-goes : goal.returns-clause-goes
returns-clause-goes c =
    let i = next_is c.args.self.now.text.now c.args.self.now.at c.in_ok-parameter.parameter (sym c.next_of.ensures ∙ c.in_ok-parameter.was) in
    record { on = λ f. (tt, tt, omega (arith, i.on, i.fits)); keeps = tt; rests = λ f. tt }
