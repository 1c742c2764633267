-- `base::lacks` meets its contract: each byte is tested.
use Rattle.std.proofs.Common.{rules, true, not, ◌&&◌, ◌∙◌, nat_eq}
use Rattle.std.proofs.lemmas.Iterator.{YieldsList-from_slice}
use Rattle.std.proofs.lemmas.Iterator.Consumers.{fold_from_yields_List}
use Rattle.base.proofs.Lists.{fold_without}
use Rattle.base.proofs.lacks.Goals as goal

pub returns : goal.returns
returns c =
    let s = c.args.s.now in
    let b = c.args.b in
    fold_from_yields_List _ (λ p a. p && not (nat_eq a b)) true _ c.fold.ensures.ran (YieldsList-from_slice s cc) (λ a x d q k. search rules) ∙ fold_without b true s
