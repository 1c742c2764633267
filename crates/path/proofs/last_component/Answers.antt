-- `path::last_component` meets its contract: the first part from the end that is not ignored.
use Rattle.std.proofs.Common.{◌∙◌, ap, sym, refl, rules, tests, Bor, List, ℕ, [], Option}
use mathlib.Core.Bool.{not}
use Rattle.std.specs.Option.{unwrap_or}
use Rattle.std.proofs.lemmas.Iterator.Search.{find_from_yields_List}
use Rattle.path.specs.Stem.{ignored, parts_from}
use Rattle.path.proofs.Laws.{last_of_back, parts_yielded, shown_found}
use Rattle.path.proofs.last_component.Goals as goal

pub returns : goal.returns
returns c =
    let s = c.args.path.now in
    ap (λ (x : Bor (List ℕ)). x.now) c.unwrap_or.ensures
    ∙ shown_found c.find.result _ refl
    ∙ ap (λ (r : Option (List ℕ)). unwrap_or r [])
    (find_from_yields_List (λ p. not (ignored p)) _ _ c.find.result c.find.ensures.ran
    (parts_yielded _ s c.rsplit.ensures.rest c.rsplit.ensures.done c.rsplit.ensures.closure (λ x b q k. search (rules, tests)))
    (λ x b q k. search (rules, tests)))
    ∙ sym (last_of_back [] (parts_from [] s))
