-- `operations::has_far` meets its contract: no kind is above 15, and no operand at or above the length.
use Rattle.std.proofs.Common.{rules, ◌∙◌, sym, false, ltb, leb, ◌||◌}
use Rattle.std.proofs.lemmas.Iterator.{YieldsList-from_slice}
use Rattle.std.proofs.lemmas.Iterator.Consumers.{fold_from_yields_List}
use Rattle.base.proofs.Tests.{or_left, or_right}
use Rattle.kinds.proofs.Folds.{fold_any}
use Rattle.checks.proofs.Laws.{near_pass}
use Rattle.checks.proofs.operations.has_far.Goals as goal

pub returns : goal.returns
returns c e =
    let n = c.args.size in
    let ks = c.args.block.kinds.now in
    let vs = c.args.block.operands.now in
    let k = fold_from_yields_List _ (λ hit a. hit || ltb 15 a) false _ c.fold-unknown.ensures.ran (YieldsList-from_slice ks cc) (λ a x b q h. search rules) ∙ fold_any (ltb 15) false ks in
    let v = fold_from_yields_List _ (λ hit a. hit || leb n a) false _ c.fold-far.ensures.ran (YieldsList-from_slice vs cc) (λ a x b q h. search rules) ∙ fold_any (leb n) false vs in
    near_pass n ks vs (sym k ∙ or_left _ _ e) (sym v ∙ or_right c.fold-unknown.result _ e)
