-- A step of trimming: White_Space at a text's start or at its end.
use Rattle.std.specs.Prelude.{ℕ, ◌-◌, ◌<◌, ◌≤◌, ◌≡◌, List, reverse, Bool, length, drop, take, Option, MatchOption}
use Rattle.trim.specs.Trim.{white2, white3, start_trimmed, back}

-- the tests of `back`
abbrev pub back2 : ℕ → ℕ → Bool
back2 b a = white2 a b

abbrev pub back3 : ℕ → ℕ → ℕ → Bool
back3 c b a = white3 a b c

-- the first n bytes of a text are White_Space
pub record White (s : List ℕ) (n : ℕ) : Type 0 where
  pub within : n ≤ length s
  pub same : start_trimmed s ≡ start_trimmed (drop n s)

-- n bytes of White_Space start a text, or none does
abbrev pub WhiteLen : List ℕ → Option ℕ → Type 0
WhiteLen s r = MatchOption r (start_trimmed s ≡ s) (λ n. (0 < n) × (n ≤ length s) × (start_trimmed s ≡ start_trimmed (drop n s)))

-- n bytes of White_Space end a text, or none does
abbrev pub LastWhiteLen : List ℕ → Option ℕ → Type 0
LastWhiteLen s r = MatchOption r (back (reverse s) ≡ reverse s) (λ n. (0 < n) × (n ≤ length s) × (back (reverse s) ≡ back (reverse (take (length s - n) s))))
