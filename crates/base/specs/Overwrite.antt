-- Bytes written over a buffer.
use Rattle.std.specs.Prelude.{ℕ, List, ◌++◌, length, take, drop}

-- starting at an offset; all else is as before
abbrev pub overwrite : (at : ℕ) (bytes buffer : List ℕ) → List ℕ
overwrite at bytes buffer = take at buffer ++ bytes ++ drop (length bytes) (drop at buffer)
