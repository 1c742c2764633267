-- What a search leads to.
use Rattle.std.specs.Prelude.{Option, Some, None}
use Rattle.std.specs.Prelude.{ℕ}

-- what follows from the offset that a search found, or the refusal where it found none
abbrev pub found_or : {A : Type 0} → Option ℕ → A → (ℕ → A) → A
found_or (Some i) refusal follows = follows i
found_or None refusal follows = refusal
