-- A fold that joins tests with no branch.
use Rattle.std.proofs.Common.{◌≡◌, Bool, ◌||◌, List, [], ◌∷◌, sym, ◌∙◌}
use mathlib.Core.Bool.{or_assoc, or-false}
use Rattle.std.specs.List.{fold, list_any}

pub fold_any : {A : Type 0} (test : A → Bool) (hit : Bool) (s : List A) → fold (λ b a. b || test a) hit s ≡ (hit || list_any test s)
fold_any test hit [] = sym (or-false hit)
fold_any test hit (a ∷ s) = fold_any test (hit || test a) s ∙ or_assoc hit (test a) (list_any test s)
