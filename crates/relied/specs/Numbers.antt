-- Which of document 01's numbers a call gives: the `Gives ..` of include/atc_vm.h.
use Rattle.std.specs.Prelude.{ℕ, ◌≡◌, List, [], ◌∷◌, Bool, true, false, ◌||◌, eqb}

abbrev pub is_one_of : List ℕ → ℕ → Bool
is_one_of [] n = false
is_one_of (a ∷ ns) n = eqb n a || is_one_of ns n

-- a number is one of these
abbrev pub Among : List ℕ → ℕ → Type 0
Among ns n = is_one_of ns n ≡ true
