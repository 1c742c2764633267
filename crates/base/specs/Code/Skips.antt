-- A scan that goes on from a later offset. Its answer is a function of the offset from which it starts.
use Rattle.std.specs.Prelude.{ℕ, ◌+◌, ◌<◌, ◌≤◌, ◌≡◌, Bool, ◌&&◌}

-- the scan from `at` may go on from i
abbrev pub Skips : {A : Type 0} → (ℕ → A) → ℕ → ℕ → Type 0
Skips f at i = f at ≡ f i

-- and i lies between `at` and the end
pub record SkipsTo {A : Type 0} (f : ℕ → A) (at end i : ℕ) : Type 0 where
  pub on : at ≤ i
  pub within : i ≤ end
  pub same : Skips f at i

-- the scan is a test: if r, it may go on from i, and otherwise it says no
abbrev pub SkipsIf : (ℕ → Bool) → ℕ → ℕ → Bool → Type 0
SkipsIf f at i r = f at ≡ (r && f i)

-- P holds at each of the n offsets from `at`
abbrev pub AllFrom : ℕ → ℕ → (ℕ → Type 0) → Type 0
AllFrom at n P = (k : ℕ) → k < n → P (at + k)
