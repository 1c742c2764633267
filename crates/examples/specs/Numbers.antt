-- An answer's number and values, and what a buffer holds after the call.
use Rattle.std.specs.Prelude.{ℕ, ◌≡◌, List}
use Rattle.numbered.specs.declared.Numbered.{Numbered}

pub record Gives (a n : Numbered) (after holds : List ℕ) : Type 0 where
  pub answer : a ≡ n
  pub buffer : after ≡ holds
