-- A cursor visits the pieces in order.
use Prim.Native.Nat.{ℕ, zero, suc, ◌+◌, ◌≤◌}
use native.Mathlib.Omega.{arith}
use mathlib.Core.Path.{◌≡◌, sym, ap, ◌∙◌}
use mathlib.Core.List.{List, [], ◌∷◌}
use Rattle.base.specs.Code.Cursor.{Visit, piece, no_piece, visited, IsVisit}

module _ {A : Type 0} (step : ℕ → Visit A) (pieces : ℕ → List A) (end : ℕ) (is_visit : (at : ℕ) → IsVisit pieces at (step at)) (past : (at : ℕ) → end ≤ at → pieces at ≡ []) where
  visits : (n at : ℕ) → end ≤ n + at → visited step n at ≡ pieces at
  unfolding visited
  visits zero at h = sym (past at (omega arith))
  visits (suc n) at h = stepped (step at) (is_visit at) (λ i k. visits n i k)
    where
      stepped : (v : Visit A) → IsVisit pieces at v → ((i : ℕ) → end ≤ n + i → visited step n i ≡ pieces i)
          → elim v as (λ _. List A) [ piece a next ↦ a ∷ visited step n next | no_piece ↦ [] ] ≡ pieces at
      stepped (piece a next) c more = ap (λ (ps : List A). a ∷ ps) (more next (let k = c.0 in omega arith)) ∙ sym c.1
      stepped no_piece c more = sym c

  pub in_order : visited step end 0 ≡ pieces 0
  in_order = visits end 0 (omega arith)
