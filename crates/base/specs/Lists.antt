-- Tests of each element of a list.
use Rattle.std.specs.Prelude.{ℕ, List, [], ◌∷◌, Bool, true, not, cond, ◌&&◌, eqb}

-- the test that a number is another one than b
abbrev pub is_not : ℕ → ℕ → Bool
is_not b a = not (eqb a b)

abbrev pub all : (ℕ → Bool) → List ℕ → Bool
all test [] = true
all test (a ∷ s) = test a && all test s

-- what stands before the first element that fails the test; `let` binds what recurs, so that it is computed only where it is taken
abbrev pub take_while : (ℕ → Bool) → List ℕ → List ℕ
take_while test [] = []
take_while test (a ∷ s) = let more = a ∷ take_while test s in cond (test a) more []
