-- What a trimmed line of the body says.
use Rattle.std.specs.Prelude.{ℕ, ◌+◌, List, cond, take, drop}
use Rattle.base.specs.Ascii.{ascii}
use Rattle.search.specs.First.{prefix_of, first_at}
use Rattle.trim.specs.Trim.{trimmed}
use Rattle.source.specs.Found.{found_or}

-- a `let` has a name and an expression, a `return` an expression
pub data Statement : Type 0 where
  skipped : Statement
  no_equals : Statement
  binds : List ℕ → List ℕ → Statement
  returns : List ℕ → Statement

-- what follows `let `, cut at its first `=`
abbrev pub let_of : List ℕ → Statement
let_of s = found_or (first_at (ascii "=") s 0) no_equals (λ i. binds (trimmed (take i s)) (trimmed (drop (i + 1) s)))

-- empty lines, `//` lines and any that start with neither word are skipped
abbrev pub statement : List ℕ → Statement
statement s = cond (prefix_of (ascii "let ") s) (let_of (drop 4 s)) (cond (prefix_of (ascii "return ") s) (returns (trimmed (drop 7 s))) skipped)
