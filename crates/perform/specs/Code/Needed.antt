-- The used slots that a run needs in the work buffer, and copies of some slots. The contracts of helpers use it, and no entry's.
use Rattle.std.specs.Prelude.{ℕ, zero, suc, ◌≤◌, ◌<◌, ◌/◌, ◌≡◌, List, [], ◌∷◌, Bool, true, false, cond, ◌&&◌, ◌||◌, length, get_or, eqb, leb}
use Rattle.kinds.specs.Kinds.{slot, takes, Operation, operation}

-- an operation names the slot j
abbrev pub names : Operation → ℕ → Bool
names o j = takes slot o.kind && eqb o.operand j

-- one of the first n operations of a program names the slot j
unfoldable pub named : List ℕ → List ℕ → ℕ → ℕ → Bool
named ks vs zero j = false
named ks vs (suc n) j = named ks vs n j || names (operation (get_or ks n 0) (get_or vs n 0)) j

-- a run on `used` slots needs the slot j: any of them, or, where the program is short against them, one that it names
abbrev pub needed : List ℕ → List ℕ → ℕ → ℕ → Bool
needed ks vs used j = cond (leb (length ks) (used / 8)) (named ks vs (length ks) j) true

-- a program has a Store, kind 12
unfoldable pub stores : List ℕ → Bool
stores [] = false
stores (k ∷ ks) = eqb k 12 || stores ks

-- a run may have changed the slot j
abbrev pub changed : List ℕ → List ℕ → ℕ → ℕ → Bool
changed ks vs used j = stores ks && needed ks vs used j

-- d' is d with the slots of s where `chosen` says so
pub record Copied (chosen : ℕ → Bool) (s d d' : List ℕ) : Type 0 where
  pub long : length d' ≡ length d
  pub each : (j : ℕ) → j < length d → get_or d' j 0 ≡ cond (chosen j) (get_or s j 0) (get_or d j 0)

-- the slots m that a run has in the work buffer, where it began with the `used` slots of m₀, are as good as the storage m'
pub record Serves (ks vs : List ℕ) (used : ℕ) (m₀ m m' : List ℕ) : Type 0 where
  pub long : length m ≡ length m'
  pub more : used ≤ length m
  pub same : (j : ℕ) → needed ks vs used j ≡ true → get_or m j 0 ≡ get_or m' j 0
  pub past : (j : ℕ) → used ≤ j → get_or m j 0 ≡ get_or m' j 0
  pub kept : (j : ℕ) → changed ks vs used j ≡ false → j < used → get_or m₀ j 0 ≡ get_or m' j 0
