-- How far an assembly has come: the bindings made, newest first, and the tree of the last `return `, if any.
use Rattle.std.specs.Prelude.{ℕ, ◌+◌, List, [], ◌∷◌, ltb, length}
use Rattle.std.specs.Prelude.{Option, None}
use Rattle.base.specs.Need.{need}
use Rattle.grammar.specs.Tree.{Tree}
use Rattle.grammar.specs.Parse.{Env}
use Rattle.numbered.specs.Numbered.{plain}
use Rattle.numbered.specs.declared.Numbered.{Numbered}
use Rattle.base.specs.Outcome.{Outcome, is, refused, and_then}

pub record Scope : Type 0 where
  pub env : Env
  pub last : Option Tree

abbrev pub started : Scope
started = record { env = []; last = None }

-- one more binding; a 257th is refused
abbrev pub bound : Scope → List ℕ → Tree → Outcome Numbered Scope
bound st name t = need (ltb (length st.env) 256) (refused (plain 21)) (is (record { env = record { name = name; tree = t } ∷ st.env; last = st.last }))

-- one text after the other, the first of which has a number
unfoldable pub each : (ℕ → Scope → List ℕ → Outcome Numbered Scope) → ℕ → Scope → List (List ℕ) → Outcome Numbered Scope
each one n st [] = is st
each one n st (s ∷ rest) = and_then (one n st s) (λ next. each one (n + 1) next rest)
