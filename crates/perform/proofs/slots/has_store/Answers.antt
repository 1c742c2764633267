-- `slots::has_store` meets its contract: the fold over the kinds is the test of all of them.
use Rattle.std.proofs.Common.{rules, ◌∙◌, sym, false, eqb, ◌||◌}
use Rattle.std.proofs.lemmas.Iterator.{YieldsList-from_slice}
use Rattle.std.proofs.lemmas.Iterator.Consumers.{fold_from_yields_List}
use Rattle.kinds.proofs.Folds.{fold_any}
use Rattle.perform.proofs.Needed.{stores_any}
use Rattle.perform.proofs.slots.has_store.Goals as goal

pub returns : goal.returns
returns c =
    let ks = c.args.kinds.now in
    fold_from_yields_List _ (λ hit k. hit || eqb k 12) false _ c.fold.ensures.ran (YieldsList-from_slice ks cc) (λ a x b q h. search rules)
    ∙ fold_any (λ k. eqb k 12) false ks ∙ sym (stores_any ks)
