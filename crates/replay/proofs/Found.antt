-- Where a byte is found in a text.
use Rattle.std.proofs.Common.{ℕ, List, [], ◌∷◌, ◌≡◌, ◌≤◌, ◌<◌, length, arith}
use Rattle.std.specs.Prelude.{Some}
use Rattle.search.specs.First.{first_at}
use Rattle.search.proofs.Laws.{found}

pub within : (b : ℕ) (s : List ℕ) (at i : ℕ) → first_at (b ∷ []) s at ≡ Some i → (at ≤ i) × (i < length s)
within b s at i e = let f = found (b ∷ []) s at i e in (f.after, omega (arith, f.fits))
