-- White_Space within a line: the characters of one byte but the line feed, and those of three.
use Rattle.std.specs.Prelude.{ℕ, suc, ◌+◌, ◌<◌, ◌≤◌, ◌≡◌, List, [], ◌∷◌, Bool, true, false, not, ◌&&◌, eqb, length, drop, Option, MatchOption}
use Rattle.trim.specs.Trim.{white1, white3}

abbrev pub blank1 : ℕ → Bool
blank1 a = white1 a && not (eqb a 0x0A)

-- how many bytes of it a text starts with
abbrev mutual
  pub blanks_len : List ℕ → ℕ
  blanks_len [] = 0
  blanks_len (a ∷ s) = elim (blank1 a) [ true ↦ suc (blanks_len s) | false ↦ blanks1 a s ]

  pub blanks1 : ℕ → List ℕ → ℕ
  blanks1 a [] = 0
  blanks1 a (b ∷ s) = blanks2 a b s

  pub blanks2 : ℕ → ℕ → List ℕ → ℕ
  blanks2 a b [] = 0
  blanks2 a b (c ∷ s) = elim (white3 a b c) [ true ↦ suc (suc (suc (blanks_len s))) | false ↦ 0 ]

-- where the White_Space that starts at an offset ends
abbrev pub blanks_end : List ℕ → ℕ → ℕ
blanks_end s at = at + blanks_len (drop at s)

-- n bytes of it start a text, or none does
abbrev pub BlankLen : List ℕ → Option ℕ → Type 0
BlankLen s r = MatchOption r (blanks_len s ≡ 0) (λ n. (0 < n) × (n ≤ length s) × (blanks_len s ≡ n + blanks_len (drop n s)))
