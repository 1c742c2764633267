-- A text from a place on, by its first bytes.
use Prim.Native.Nat.{ℕ, ◌+◌, ◌<◌}
use native.Mathlib.Omega.{arith}
use mathlib.Core.Path.{◌≡◌, refl, ap, ◌∙◌}
use mathlib.Core.List.{List, ◌∷◌}
use lib.ListN.{length, get_or, drop}
use Rattle.base.proofs.Parts.{drop_cons_at}

module _ (s : List ℕ) (at : ℕ) where
  pub at1 : at < length s → drop at s ≡ get_or s at 0 ∷ drop (at + 1) s
  at1 h = drop_cons_at s at (at + 1) h refl

  pub at2 : at + 1 < length s → drop at s ≡ get_or s at 0 ∷ get_or s (at + 1) 0 ∷ drop (at + 2) s
  at2 h = at1 (omega arith) ∙ ap (λ (t : List ℕ). get_or s at 0 ∷ t) (drop_cons_at s (at + 1) (at + 2) h (omega arith))

  pub at3 : at + 2 < length s → drop at s ≡ get_or s at 0 ∷ get_or s (at + 1) 0 ∷ get_or s (at + 2) 0 ∷ drop (at + 3) s
  at3 h = at2 (omega arith) ∙ ap (λ (t : List ℕ). get_or s at 0 ∷ get_or s (at + 1) 0 ∷ t) (drop_cons_at s (at + 2) (at + 3) h (omega arith))

  pub at4 : at + 3 < length s → drop at s ≡ get_or s at 0 ∷ get_or s (at + 1) 0 ∷ get_or s (at + 2) 0 ∷ get_or s (at + 3) 0 ∷ drop (at + 4) s
  at4 h = at3 (omega arith) ∙ ap (λ (t : List ℕ). get_or s at 0 ∷ get_or s (at + 1) 0 ∷ get_or s (at + 2) 0 ∷ t) (drop_cons_at s (at + 3) (at + 4) h (omega arith))
