-- The body, line by line.
use Rattle.std.specs.Prelude.{ℕ, List, [], ◌∷◌, leb}
use Rattle.std.specs.Prelude.{Some}
use Rattle.base.specs.Need.{need}
use Rattle.trim.specs.Trim.{trimmed}
use Rattle.grammar.specs.Tree.{Tree, k_of}
use Rattle.grammar.specs.Parse.{meaning}
use Rattle.numbered.specs.Numbered.{carrying, located}
use Rattle.numbered.specs.declared.Numbered.{Numbered}
use Rattle.base.specs.Outcome.{Outcome, is, refused}
use Rattle.body.specs.Statement.{Statement, skipped, no_equals, binds, returns, statement}
use Rattle.scope.specs.Scope.{Scope, bound}

-- what follows from the tree of an expression on a line, whose k may be 32,768 at most
abbrev pub tree_or : Outcome Numbered Tree → ℕ → (Tree → Outcome Numbered Scope) → Outcome Numbered Scope
tree_or (refused r) line follows = refused (located r line)
tree_or (is t) line follows = need (leb (k_of t) 32768) (refused (carrying 20 (line ∷ []))) (follows t)

-- a statement on a line
abbrev pub statement_read : ℕ → Scope → Statement → Outcome Numbered Scope
statement_read line st skipped = is st
statement_read line st no_equals = refused (carrying 12 (line ∷ []))
statement_read line st (binds name s) = tree_or (meaning st.env s) line (bound st name)
statement_read line st (returns s) = tree_or (meaning st.env s) line (λ t. is (record { env = st.env; last = Some t }))

abbrev pub line_read : ℕ → Scope → List ℕ → Outcome Numbered Scope
line_read line st s = statement_read line st (statement (trimmed s))
