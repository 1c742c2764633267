-- The bindings as the contract writes them: where the name and the expression of each stand in its text. A parameter has no expression, but its value.
use Rattle.std.specs.Prelude.{ℕ, zero, suc, ◌+◌, ◌<◌, ◌≤◌, ◌≡◌, List, [], ◌∷◌, cond, eqb, length, get_or, take, drop}
use Rattle.numbered.specs.declared.Numbered.{Numbered}
use Rattle.base.specs.Outcome.{Outcome, is, refused}
use Rattle.bindings.specs.declared.Bindings.{Bindings}
use Rattle.bindings.specs.declared.Values.{Values}
use Rattle.grammar.specs.Tree.{Tree, num}
use Rattle.bindings.specs.Code.Table.{tag_of}
use Rattle.grammar.specs.Parse.{Env, meaning}

-- where names start, their lengths and tags, where expressions start and their lengths, the values; oldest first
pub record Sources : Type 0 where
  pub names : List ℕ
  pub lens : List ℕ
  pub tags : List ℕ
  pub starts : List ℕ
  pub sizes : List ℕ
  pub values : List ℕ

abbrev pub sources_of : List ℕ → List ℕ → List ℕ → List ℕ → List ℕ → List ℕ → Sources
sources_of names lens tags starts sizes values = record { names = names; lens = lens; tags = tags; starts = starts; sizes = sizes; values = values }

abbrev pub sources : Bindings → Values → Sources
sources b v = sources_of b.name_start b.name_len v.tag b.expr_start b.expr_len v.value

-- the tree that is meant, or that of 0 for a refusal
abbrev pub tree_or0 : Outcome Numbered Tree → Tree
tree_or0 (is t) = t
tree_or0 (refused r) = num 0

module _ (s : List ℕ) (c : Sources) where
  abbrev pub name_of : ℕ → List ℕ
  name_of i = take (get_or c.lens i 0) (drop (get_or c.names i 0) s)

  abbrev pub expression_of : ℕ → List ℕ
  expression_of i = take (get_or c.sizes i 0) (drop (get_or c.starts i 0) s)

  -- the tree of binding i, among the bindings before it
  abbrev pub tree_among : Env → ℕ → Tree
  tree_among env i = cond (eqb (get_or c.sizes i 0) 0) (num (get_or c.values i 0)) (tree_or0 (meaning env (expression_of i)))

  -- the first n bindings, newest first
  unfoldable pub env_of : ℕ → Env
  env_of zero = []
  env_of (suc n) = record { name = name_of n; tree = tree_among (env_of n) n } ∷ env_of n

  abbrev pub tree_of : ℕ → Tree
  tree_of i = tree_among (env_of i) i

  -- binding i stands in the text, and its expression, if it has one, means a tree
  pub record InText (i : ℕ) : Type 0 where
    pub name : get_or c.names i 0 + get_or c.lens i 0 ≤ length s
    pub tag : get_or c.tags i 0 ≡ tag_of (name_of i)
    pub inside : get_or c.starts i 0 + get_or c.sizes i 0 ≤ length s
    pub means : 0 < get_or c.sizes i 0 → meaning (env_of i) (expression_of i) ≡ is (tree_of i)

  -- so do the first n
  abbrev pub AllInText : ℕ → Type 0
  AllInText n = (i : ℕ) → i < n → InText i
