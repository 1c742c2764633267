-- What is written for an expression among the bindings of a table, and what is kept of the bindings that were written before.
use Rattle.std.specs.Prelude.{ℕ, ◌≤◌, ◌≡◌, List, Option, Some, None, length, get_or, take, drop}
use Rattle.std.proofs.Math.Seq.{slice}
use Rattle.base.specs.Outcome.{is}
use Rattle.base.specs.declared.span.Span.{Span}
use Rattle.grammar.specs.Tree.{Tree}
use Rattle.grammar.specs.Parse.{meaning}
use Rattle.bindings.specs.declared.names.Known.{Known}
use Rattle.bindings.specs.Code.Source.{Sources, sources, tree_or0, env_of, tree_of, AllInText}
use Rattle.grammar.specs.Code.Texts.{text_of}

-- from start to end of the text s, among the first count bindings
module _ (s : List ℕ) (c : Sources) (count start end : ℕ) where
  abbrev pub tree_between : Tree
  tree_between = tree_or0 (meaning (env_of s c count) (drop start (take end s)))

  -- the expression means a tree, and so do the bindings'
  pub record MeansTree : Type 0 where
    pub few : count ≤ 256
    pub stand : AllInText s c count
    pub inside : end ≤ length s
    pub is : meaning (env_of s c count) (drop start (take end s)) ≡ is tree_between

-- a piece ends before an offset
pub record Before (p : Span) (to : ℕ) : Type 0 where
  pub ordered : p.start ≤ p.end
  pub before : p.end ≤ to

-- what bindings wrote stands before an offset of the output; none is kept of a binding that wrote nothing yet
pub record KeepsWritten (s : List ℕ) (c : Sources) (out : List ℕ) (to : ℕ) (pieces : List (Option Span)) : Type 0 where
  pub full : length pieces ≡ 256
  pub before : (i : ℕ) (p : Span) → get_or pieces i None ≡ Some p → Before p to
  pub holds : (i : ℕ) (p : Span) → get_or pieces i None ≡ Some p → slice p.start p.end out ≡ text_of (tree_of s c i)

-- the same of the bindings that a name may mean
module _ (k : Known) where
  abbrev pub sources_known : Sources
  sources_known = sources k.table.now k.values.now

  abbrev pub known_tree : Span → Tree
  known_tree expr = tree_between k.text.now sources_known k.count expr.start expr.end

  abbrev pub binding_tree : ℕ → Tree
  binding_tree b = tree_of k.text.now sources_known b

  abbrev pub KnownMeans : Span → Type 0
  KnownMeans expr = MeansTree k.text.now sources_known k.count expr.start expr.end

  abbrev pub KnownStand : ℕ → Type 0
  KnownStand n = AllInText k.text.now sources_known n

  abbrev pub Keeps : List ℕ → ℕ → List (Option Span) → Type 0
  Keeps out to pieces = KeepsWritten k.text.now sources_known out to pieces
