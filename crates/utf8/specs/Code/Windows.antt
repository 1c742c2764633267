-- A text that is UTF-8, by each byte and the three before it.
use Rattle.std.specs.Prelude.{ℕ, zero, suc, ◌+◌, ◌<◌, ◌≡◌, List, [], ◌∷◌, Bool, true, false, cond, ◌&&◌, ◌||◌, eqb, leb, length, get_or}
use Rattle.base.specs.Range.{within}
use Rattle.base.specs.Code.Skips.{AllFrom}

-- behind these bytes a character is not complete
abbrev pub opened : ℕ → ℕ → ℕ → Bool
opened a b c = leb 0xC0 c || leb 0xE0 b || leb 0xF0 a

-- the range of the tails behind a byte
abbrev pub lowest : ℕ → ℕ
lowest c = cond (eqb c 0xE0) 0xA0 (cond (eqb c 0xF0) 0x90 0x80)

abbrev pub highest : ℕ → ℕ
highest c = cond (eqb c 0xED) 0x9F (cond (eqb c 0xF4) 0x8F 0xBF)

-- where a character is not complete a tail follows, and else a first byte
abbrev pub follows : ℕ → ℕ → ℕ → ℕ → Bool
follows a b c d = cond (opened a b c) (within (lowest c) (highest c) d) (leb d 0x7F || within 0xC2 0xF4 d)

-- the byte behind the three at a position
abbrev pub follows_at : List ℕ → ℕ → Bool
follows_at s at = follows (get_or s at 0) (get_or s (at + 1) 0) (get_or s (at + 2) 0) (get_or s (at + 3) 0)

-- n bytes follow so behind three others, and the last character is complete
abbrev pub complete_from : ℕ → ℕ → ℕ → ℕ → List ℕ → Bool
complete_from a b c zero s = cond (opened a b c) false true
complete_from a b c (suc n) [] = false
complete_from a b c (suc n) (d ∷ s) = follows a b c d && complete_from b c d n s

-- each of n bytes follows the three before it, of which the first stands at a position
abbrev pub Follow : List ℕ → ℕ → ℕ → Type 0
Follow s at n = AllFrom at n (λ i. follows_at s i ≡ true)

-- each byte behind the first three follows the three before it
abbrev pub FollowAll : List ℕ → Type 0
FollowAll s = (k : ℕ) → k + 3 < length s → follows_at s k ≡ true
