-- The lines of a text, as documented for `str::lines`: lines end in a line feed or in a carriage return and a line feed,
use Rattle.std.specs.Prelude.{ℕ, List, [], ◌∷◌, Bool, true, false, ◌&&◌, eqb}
use Rattle.base.specs.Lists.{is_not, all}
pub use Rattle.base.specs.Texts.{front}

-- no line has its ending, the last ending is optional, and a carriage return anywhere else is part of its line.
-- Both endings are ASCII, so the definition serves bytes and code points alike.

-- a line feed comes next
abbrev pub feed_next : List ℕ → Bool
feed_next [] = false
feed_next (a ∷ s) = eqb a 10

-- a line feed ends a line; a carriage return right before it is left out; anything else stands in its line
abbrev pub lines : List ℕ → List (List ℕ)
lines [] = []
lines (a ∷ s) = elim (eqb a 10) [
  | true ↦ [] ∷ lines s
  | false ↦ elim (eqb a 13 && feed_next s) [ true ↦ lines s | false ↦ front a (lines s) ]
]

-- no line feed is in it
abbrev pub feed_free : List ℕ → Bool
feed_free s = all (is_not 10) s
