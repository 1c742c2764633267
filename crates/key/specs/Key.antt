-- How a key stands in a vector.
use Rattle.std.specs.Prelude.{ℕ, List, ◌++◌}
use Rattle.base.specs.Ascii.{ascii}

-- a key in double quotes
abbrev pub quoted : List ℕ → List ℕ
quoted key = ascii "\"" ++ key ++ ascii "\""
