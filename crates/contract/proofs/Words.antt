-- The numbers of a tree that an expression means are below 2^64 where those of its bindings are.
use Rattle.std.specs.Prelude.{Option, Some, None}
use Prim.Native.Nat.{ℕ, ◌+◌, ◌*◌, ◌^◌, ◌<◌, ◌≤◌}
use mathlib.Core.Path.{◌≡◌}
use mathlib.Core.List.{List, [], ◌∷◌}
use mathlib.Core.Bool.{Bool, true, false, cond}
use native.Mathlib.Omega.{arith}
use Rattle.base.specs.Outcome.{is}
use Rattle.base.specs.Equal.{equal}
use Rattle.decimal.proofs.Laws.{length_word}
use Rattle.grammar.specs.Tree.{Tree, num, bin, k_of}
use Rattle.grammar.specs.Code.Lengths.{len_of}
use Rattle.grammar.specs.Parse.{Env, lookup, meaning}
use Rattle.grammar.specs.Grammar.{Derives, number, name, parentheses, alone, join}
use Rattle.grammar.proofs.Grammar.{grammar}
use Rattle.expression.proofs.Reading.{line_most}

abbrev pub Words : Tree → Type 0
Words (num n) = n < 2 ^ 64
Words (bin op l r) = Words l × Words r

abbrev pub WordsIn : Env → Type 0
WordsIn [] = Unit {0}
WordsIn (b ∷ env) = Words b.tree × WordsIn env

abbrev WordsOf : Option Tree → Type 0
WordsOf None = Unit {0}
WordsOf (Some t) = Words t

lookup-words : (w : List ℕ) (env : Env) → WordsIn env → WordsOf (lookup w env)
lookup-words w [] h = tt
lookup-words w (b ∷ env) h = go (equal w b.name) (lookup-words w env h.1)
  where
    go : (q : Bool) → WordsOf (lookup w env) → WordsOf (cond q (Some b.tree) (lookup w env))
    go true x = h.0
    go false x = x

derives_words : {env : Env} {l d : ℕ} {ts : List (List ℕ)} {t : Tree} → WordsIn env → Derives env l d ts t → Words t
derives_words h (number b a lt) = lt
derives_words {env} h (name {w = w} o a e) = rw e at (lookup-words w env h)
derives_words h (parentheses p) = derives_words h p
derives_words h (alone p) = derives_words h p
derives_words h (join p o q) = (derives_words h p, derives_words h q)

pub meaning-words : (env : Env) (s : List ℕ) (t : Tree) → WordsIn env → meaning env s ≡ is t → Words t
meaning-words env s t h e = derives_words h ((grammar env s t).0 e).1.1

-- the text of a tree is bounded by its k
pub words_short : (t : Tree) → Words t → len_of t + 4 ≤ 30 * k_of t
words_short (num n) w = omega (arith, length_word n w)
words_short (bin op l r) w = omega (arith, line_most op, words_short l w.0, words_short r w.1)
