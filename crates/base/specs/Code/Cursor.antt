-- A cursor that steps from piece to piece.
use Rattle.std.specs.Prelude.{ℕ, zero, suc, ◌<◌, ◌≡◌, List, [], ◌∷◌}

-- what a step finds: a piece and the offset of the next step, or that no piece is left
pub data Visit (A : Type 0) : Type 0 where
  piece : A → ℕ → Visit A
  no_piece : Visit A

-- the pieces that a cursor visits in at most n steps from an offset on
unfoldable pub visited : {A : Type 0} → (ℕ → Visit A) → ℕ → ℕ → List A
visited step zero at = []
visited step (suc n) at = elim (step at) [ piece a next ↦ a ∷ visited step n next | no_piece ↦ [] ]

-- a step's answer is right of the pieces from its offset on
abbrev pub IsVisit : {A : Type 0} → (ℕ → List A) → ℕ → Visit A → Type 0
IsVisit pieces at (piece a next) = (at < next) × (pieces at ≡ a ∷ pieces next)
IsVisit pieces at no_piece = pieces at ≡ []
