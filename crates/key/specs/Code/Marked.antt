-- What the steps of the search for a key in double quotes tell.
use Rattle.std.specs.Prelude.{Option, Some, None}
use Rattle.std.specs.Prelude.{ℕ, ◌+◌, ◌<◌, ◌≤◌, ◌≡◌, Bool, replicate, List, length, get_or, take}
use Rattle.search.specs.First.{first_at}
use Rattle.std.specs.Option.{option_or}
use Rattle.std.specs.Str.{bytes_eq}
use Rattle.key.specs.Key.{quoted}
use Rattle.key.specs.declared.Mark.{Mark}

-- r is the first offset from `at` on and before end, where there is one
abbrev pub FirstBefore : List ℕ → List ℕ → ℕ → ℕ → Option ℕ → Type 0
FirstBefore s key at end r = first_at (quoted key) s at ≡ option_or r (first_at (quoted key) s end)

-- quotes alone stand from `from` on up to end
abbrev pub Quotes : List ℕ → ℕ → ℕ → Type 0
Quotes s from end = (k : ℕ) → from ≤ k → k < end → get_or s k 0 ≡ 0x22

-- a block is of quotes alone
abbrev pub of_quotes : List ℕ → Bool
of_quotes block = bytes_eq block (replicate 16 0x22)

-- a byte and its place in the quoted key, place 0 only where that is quotes alone
pub record Marks (key : List ℕ) (m : Mark) : Type 0 where
  pub within : m.place < length key + 2
  pub is : get_or (quoted key) m.place 0 ≡ m.byte
  pub quotes : m.place ≡ 0 → Quotes (quoted key) 0 (length key + 2)

-- an offset from `from` on and before end at which no quote stands, or nothing where quotes alone do
abbrev pub Other : List ℕ → ℕ → ℕ → Option ℕ → Type 0
Other s from end (Some j) = (from ≤ j) × (j < end) × (get_or s j 0 ≡ 0x22 → ⊥)
Other s from end None = Quotes s from end

-- a pattern's array starts with the quoted key
pub record Holds (pattern key : List ℕ) : Type 0 where
  pub size : length pattern ≡ 65536
  pub starts : take (length key + 2) pattern ≡ quoted key
