-- What a scan of offsets finds.
use Rattle.std.specs.Prelude.{ℕ, ◌<◌, ◌≤◌, Bool, true, false, Option, MatchOption}

-- r is the first place from `at` on and before end of which a test says yes
abbrev pub FirstThat : (ℕ → Bool → Type 0) → ℕ → ℕ → Option ℕ → Type 0
FirstThat says at end r =
    MatchOption r ((k : ℕ) → at ≤ k → k < end → says k false)
    (λ i. (at ≤ i) × (i < end) × says i true × ((k : ℕ) → at ≤ k → k < i → says k false))
