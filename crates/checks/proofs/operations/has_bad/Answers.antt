-- `operations::has_bad` meets its contract: no operation is one that the verifier refuses.
use Rattle.std.proofs.Common.{rules, ◌∙◌, sym, false, ◌||◌}
use Rattle.std.specs.List.{zip}
use Rattle.std.proofs.lemmas.Iterator.{YieldsList-from_slice, YieldsList-from_zip}
use Rattle.std.proofs.lemmas.Iterator.Consumers.{fold_from_yields_List}
use Rattle.kinds.specs.Kinds.{operation}
use Rattle.kinds.proofs.Folds.{fold_any}
use Rattle.checks.specs.Code.Blocks.{is_bad}
use Rattle.checks.proofs.Laws.{good_pass}
use Rattle.checks.proofs.operations.has_bad.Goals as goal

pub returns : goal.returns
returns c e =
    let n = c.args.size in
    let ks = c.args.block.kinds.now in
    let vs = c.args.block.operands.now in
    let k = fold_from_yields_List _ (λ hit p. hit || is_bad n (operation p.0 p.1)) false _ c.fold.ensures.ran (YieldsList-from_zip (YieldsList-from_slice ks cc) (YieldsList-from_slice vs cc)) (λ a x b q h. search rules) ∙ fold_any (λ p. is_bad n (operation p.0 p.1)) false (zip ks vs) in
    good_pass n ks vs (sym k ∙ e)
