-- Places in a text as code points and in its encoding.
use Rattle.std.specs.Prelude.{ℕ, List, length, take, Option, Some, None}
use Rattle.utf8.specs.Encode.{encodes}

-- the byte place at which code point i starts
abbrev pub byte_place : List ℕ → Option ℕ → Option ℕ
byte_place cs (Some i) = Some (length (encodes (take i cs)))
byte_place cs None = None
