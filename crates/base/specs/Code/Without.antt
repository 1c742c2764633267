-- A byte that is in no place of a list.
use Rattle.std.specs.Prelude.{ℕ, List, Bool, not, ◌==◌}
use Rattle.std.specs.List.{list_any}

-- b is not in a list
abbrev pub without : ℕ → List ℕ → Bool
without b s = not (list_any (λ a. a == b) s)
