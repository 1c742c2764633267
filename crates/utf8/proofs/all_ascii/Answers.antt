-- `utf8::all_ascii` meets its contract: the fold over the bytes is the test of all of them.
use Rattle.std.proofs.Common.{rules, ◌∙◌, true, ◌&&◌}
use Rattle.std.proofs.lemmas.Iterator.{YieldsList-from_slice}
use Rattle.std.proofs.lemmas.Iterator.Consumers.{fold_from_yields_List}
use Rattle.base.proofs.Lists.{fold_all}
use Rattle.utf8.specs.Utf8.{utf8_1}
use Rattle.utf8.proofs.all_ascii.Goals as goal

pub returns : goal.returns
returns c =
    let s = c.args.s.now in
    fold_from_yields_List _ (λ p a. p && utf8_1 a) true _ c.fold.ensures.ran (YieldsList-from_slice s cc) (λ a x b q k. search rules) ∙ fold_all utf8_1 true s
