-- Laws of a search's answer.
use Rattle.std.specs.Prelude.{Option, Some, None}
use Prim.Native.Nat.{ℕ, ◌+◌, ◌≤◌}
use mathlib.Core.Path.{◌≡◌, refl}
use mathlib.Core.List.{List}
use lib.ListN.{length}
use Rattle.search.specs.First.{first_at}
use Rattle.search.proofs.Laws.{found}

pub by_found : {P : Type 0} (x : Option ℕ) → ((i : ℕ) → x ≡ Some i → P) → (x ≡ None → P) → P
by_found (Some i) y n = y i refl
by_found None y n = n refl

-- what is found lies within the text, at the place or after it from which it is sought
pub in_text : (p s : List ℕ) (at i : ℕ) → first_at p s at ≡ Some i → (at ≤ i) × (i + length p ≤ length s)
in_text p s at i e = let f = found p s at i e in (f.after, f.fits)
