-- What the parser makes of tokens with every fuel that is enough.
use Rattle.std.specs.Prelude.{ℕ, ◌<◌, ◌≤◌, ◌≡◌, List, length}
use Rattle.base.specs.Outcome.{is, refused}
use Rattle.numbered.specs.declared.Numbered.{Numbered}
use Rattle.grammar.specs.Tree.{Tree}
use Rattle.grammar.specs.Parse.{Env, parse_f, enough}

module _ (env : Env) (l d : ℕ) (ts : List (List ℕ)) where
  -- it reads the tree t and leaves rest
  pub record Reads (t : Tree) (rest : List (List ℕ)) : Type 0 where
    pub fewer : length rest < length ts
    pub same : (f : ℕ) → enough l ts ≤ f → parse_f f l env d ts ≡ is (t, rest)

  pub record Refuses (r : Numbered) : Type 0 where
    pub same : (f : ℕ) → enough l ts ≤ f → parse_f f l env d ts ≡ refused r
