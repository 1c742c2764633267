-- What an expression means: a closed tree, in which a name stands as the tree of its binding.
use Rattle.std.specs.Prelude.{ℕ, ◌+◌, max}
use Rattle.std.specs.Prelude.{Option, Some, None}
use Rattle.word.specs.Apply.{Binary, apply}

pub data Tree : Type 0 where
  num : ℕ → Tree
  bin : Binary → Tree → Tree → Tree

-- an operation on none gives none
abbrev pub applied : Binary → Option ℕ → Option ℕ → Option ℕ
applied op None b = None
applied op (Some x) None = None
applied op (Some x) (Some y) = apply op x y

abbrev pub value_of : Tree → Option ℕ
value_of (num n) = Some n
value_of (bin op l r) = applied op (value_of l) (value_of r)

-- document 01's k
abbrev pub k_of : Tree → ℕ
k_of (num n) = 1
k_of (bin op l r) = k_of l + k_of r

-- document 01's p
abbrev pub p_of : Tree → ℕ
p_of (num n) = 1
p_of (bin op l r) = max (p_of l) (p_of r + 1)
