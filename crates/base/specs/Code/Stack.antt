-- A stack in a buffer.
use Rattle.std.specs.Prelude.{ℕ, zero, suc, List, [], ◌∷◌, get_or}

-- the first n of a buffer, the last of them first
unfoldable pub stack_of : List ℕ → ℕ → List ℕ
stack_of s zero = []
stack_of s (suc n) = get_or s n 0 ∷ stack_of s n
