-- The bindings that an expression may name.
use Rattle.std.specs.Prelude.{ℕ, List, [], ◌∷◌, cond}
use Rattle.std.specs.Prelude.{Option, Some, None}
use Rattle.base.specs.Equal.{equal}
use Rattle.grammar.specs.Tree.{Tree}

pub record Binding : Type 0 where
  pub name : List ℕ
  pub tree : Tree

-- newest first
abbrev pub Env : Type 0
Env = List Binding

-- the tree of the newest binding of a name
abbrev pub lookup : List ℕ → Env → Option Tree
lookup w [] = None
lookup w (b ∷ env) = let older = lookup w env in cond (equal w b.name) (Some b.tree) older
