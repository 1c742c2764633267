-- `trim::all_white` meets its contract: the fold over the bytes is the test of all of them.
use Rattle.std.proofs.Common.{rules, ◌∙◌, true, ◌&&◌}
use Rattle.std.proofs.lemmas.Iterator.{YieldsList-from_slice}
use Rattle.std.proofs.lemmas.Iterator.Consumers.{fold_from_yields_List}
use Rattle.base.proofs.Lists.{fold_all}
use Rattle.trim.specs.Trim.{white1}
use Rattle.trim.proofs.all_white.Goals as goal

pub returns : goal.returns
returns c =
    let s = c.args.block.now in
    fold_from_yields_List _ (λ p a. p && white1 a) true _ c.fold.ensures.ran (YieldsList-from_slice s cc) (λ a x b q k. search rules) ∙ fold_all white1 true s
