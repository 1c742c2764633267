-- `Run::perform` meets its contract: the run on the slots copied into the work buffer is the run on the storage.
use mathlib.Core.Path.{◌∙◌}
use Rattle.perform.specs.Call.{call_of}
use Rattle.perform.proofs.Results.{on_work, carried}
use Rattle.perform.proofs.Run.perform.Goals as goal

pub returns : goal.returns
returns c =
    let a = c.args in
    let r = c.run-r in
    let f = c.copy_needed in
    let x = call_of a.self a.stack.now a.work.now a.storage.now in
    let like = on_work x f.new.d r.new.stack r.new.work c.start.result r.result c.requires f.auto.d f.ensures c.start.ensures r.ensures in
    carried x r.new.stack r.new.work _ r.auto.stack (r.auto.work ∙ f.auto.d) (c.finish.ensures _ like)
