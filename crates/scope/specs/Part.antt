-- A part of a text.
use Rattle.std.specs.Prelude.{ℕ, ◌-◌, List, take, drop}

-- from one offset to another
abbrev pub part : List ℕ → ℕ → ℕ → List ℕ
part s start end = take (end - start) (drop start s)
