-- The kind of operation whose word a line starts with.
use Rattle.std.specs.Prelude.{ℕ, suc, ◌+◌, List, [], ◌∷◌, ◌++◌, Bool, cond, not, ◌&&◌, eqb, length}
use Rattle.search.specs.First.{prefix_of}
use Rattle.kinds.specs.Kinds.{Operand, none, Kind, kinds, kind_of, sort_number}
use Rattle.mnemonic.specs.declared.Head.{Head}
use Rattle.mnemonic.specs.declared.Head.TheVariants.{Alone, Before, Unknown}

-- whether an operand follows the word: one does unless it is of the sort none
abbrev pub follows : Operand → Bool
follows operand = not (eqb (sort_number operand) (sort_number none))

-- a kind's word, and behind it a space and digits where an operand follows
abbrev pub line_with : ℕ → List ℕ → List ℕ
line_with k d = (kind_of k).word ++ cond (follows (kind_of k).operand) (32 ∷ d) []

-- a trimmed line starts with the kind's word and a space where an operand follows, else it is the word and nothing else
abbrev pub fits : Kind → List ℕ → Bool
fits w t =
    cond (follows w.operand) (prefix_of (w.word ++ 32 ∷ []) t) (prefix_of w.word t && eqb (length t) (length w.word))

-- the kind's number, and where what follows the space starts
abbrev pub head_with : ℕ → Kind → Head
head_with k w = cond (follows w.operand) (Before k (length w.word + 1)) (Alone k)

-- the first of the kinds that fits, their numbers being counted from k
abbrev pub head_from : ℕ → List Kind → List ℕ → Head
head_from k [] t = Unknown
head_from k (w ∷ ws) t = cond (fits w t) (head_with k w) (head_from (suc k) ws t)

abbrev pub head_of : List ℕ → Head
head_of t = head_from 0 kinds t
