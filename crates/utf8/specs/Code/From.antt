-- A text from a position on: the promises of the parts of `is_utf8`.
use Rattle.std.specs.Prelude.{ℕ, ◌+◌, ◌<◌, ◌≤◌, ◌≡◌, List, Bool, false, length, drop, Option, MatchOption}
use Rattle.base.specs.Code.Skips.{Skips}
use Rattle.utf8.specs.Utf8.{utf8}

abbrev pub utf8_from : List ℕ → ℕ → Bool
utf8_from s at = utf8 (drop at s)

-- the characters of n bytes at a position are skipped, or the text is not UTF-8 from there on
abbrev pub CharactersAt : List ℕ → ℕ → Option ℕ → Type 0
CharactersAt s at r = MatchOption r (utf8_from s at ≡ false) (λ n. (0 < n) × (at + n ≤ length s) × Skips (utf8_from s) at (at + n))
