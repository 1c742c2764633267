-- Worked examples of the first occurrence.
use Rattle.std.specs.Prelude.{Some, None}
use Prim.Native.Nat.{ℕ}
use mathlib.Core.Path.{◌≡◌, refl}
use mathlib.Core.List.{[], ◌∷◌}
use Rattle.search.specs.First.{first_at}

abbrev a : ℕ
a = 0x61

abbrev b : ℕ
b = 0x62

pub first_of_two : first_at (a ∷ b ∷ []) (a ∷ b ∷ a ∷ b ∷ []) 0 ≡ Some 0
first_of_two = refl

pub from_one : first_at (a ∷ b ∷ []) (a ∷ b ∷ a ∷ b ∷ []) 1 ≡ Some 2
from_one = refl

pub overlapping : first_at (a ∷ a ∷ b ∷ []) (a ∷ a ∷ a ∷ b ∷ []) 0 ≡ Some 1
overlapping = refl

pub none : first_at (b ∷ a ∷ []) (a ∷ b ∷ b ∷ []) 0 ≡ None
none = refl

pub cut_off : first_at (a ∷ b ∷ []) (b ∷ a ∷ []) 0 ≡ None
cut_off = refl

pub at_the_end : first_at (b ∷ []) (a ∷ a ∷ b ∷ []) 0 ≡ Some 2
at_the_end = refl

pub empty : first_at [] (a ∷ b ∷ []) 1 ≡ Some 1
empty = refl

pub empty_at_the_end : first_at [] (a ∷ b ∷ []) 2 ≡ Some 2
empty_at_the_end = refl

pub past_the_end : first_at [] (a ∷ b ∷ []) 3 ≡ None
past_the_end = refl
