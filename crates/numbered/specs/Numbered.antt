-- A number of document 01 with the values that its entry names, as the first of eight words.
use Rattle.std.specs.Prelude.{ℕ, ◌-◌, ◌≡◌, List, [], ◌∷◌, ◌++◌, length, replicate, Result, Ok, Err}
use Rattle.numbered.specs.declared.Numbered.{Numbered}

-- values with zeros behind them; more than eight values are no eight words
abbrev pub eight : List ℕ → List ℕ
eight values = values ++ replicate (8 - length values) 0

abbrev pub carrying : ℕ → List ℕ → Numbered
carrying number values = record { number = number; words = eight values }

abbrev pub plain : ℕ → Numbered
plain number = carrying number []

-- with the place of a key, or the number of a line
abbrev pub located : Numbered → ℕ → Numbered
located n place = carrying n.number (place ∷ [])

-- 0, with nothing
abbrev pub unit_numbered : Unit {0} → Numbered
unit_numbered _ = plain 0

-- 0, with how many or which
abbrev pub size_numbered : ℕ → Numbered
size_numbered n = carrying 0 (n ∷ [])

-- a value or a refusal
abbrev pub result_numbered : {T E : Type 0} → (T → Numbered) → (E → Numbered) → Result T E → Numbered
result_numbered value refusal (Ok v) = value v
result_numbered value refusal (Err e) = refusal e

-- the answer r is the one expected, and says its number and values
pub record Answered {A : Type 0} (numbered : A → Numbered) (expected r : A) : Type 0 where
  pub answer : r ≡ expected
  pub says : numbered r ≡ numbered expected
