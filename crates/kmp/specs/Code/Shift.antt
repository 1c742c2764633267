-- The shifts of a pattern.
use Rattle.std.specs.Prelude.{ℕ, ◌+◌, ◌<◌, ◌≤◌, ◌≡◌, List, length, get_or}

-- p agrees with s from the place c on up to n
abbrev pub Agrees : List ℕ → List ℕ → ℕ → ℕ → Type 0
Agrees p s c n = (k : ℕ) → c + k < n → get_or s (c + k) 0 ≡ get_or p k 0

-- e is the shortest period of the first j bytes of p
pub record Shift (p : List ℕ) (j e : ℕ) : Type 0 where
  pub some : 0 < e
  pub most : e ≤ j
  pub agrees : Agrees p p e j
  pub least : (d : ℕ) → 0 < d → d < e → Agrees p p d j → ⊥

-- t has the shift of each j from 1 up to n
pub record Table (p t : List ℕ) (n : ℕ) : Type 0 where
  pub size : length t ≡ 65536
  pub shift : (j : ℕ) → 0 < j → j ≤ n → Shift p j (get_or t j 0)
