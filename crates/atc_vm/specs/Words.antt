-- What every export gives: the number as its result, the values in the eight words.
use Rattle.std.specs.Prelude.{ℕ, ◌≡◌, List}
use Rattle.numbered.specs.declared.Numbered.{Numbered}

pub record Tells (n : Numbered) (after : List ℕ) (r : ℕ) : Type 0 where
  pub number : r ≡ n.number
  pub words : after ≡ n.words
