-- The text of a tree: it is put together as the tree is, and its length and the number of its operations are those of the definitions.
use Prim.Native.Nat.{ℕ, ◌+◌, ◌*◌}
use mathlib.Core.Path.{◌≡◌, refl, sym, ap, ◌∙◌}
use mathlib.Core.List.{List, [], ◌∷◌, ◌++◌, append-nil, append_assoc}
use native.Mathlib.Omega.{arith}
use lib.ListN.{length, length-append}
use Rattle.word.specs.Apply.{Binary}
use Rattle.decimal.specs.Decimal.{decimal}
use Rattle.kinds.specs.Kinds.{Operation}
use Rattle.mnemonic.specs.Written.{written, written_all}
use Rattle.grammar.specs.Tree.{Tree, num, bin, k_of}
use Rattle.grammar.specs.Code.Lengths.{len_of}
use Rattle.grammar.specs.Written.{tree_ops}
use Rattle.grammar.specs.Code.Operator.{operator_of}
use Rattle.grammar.specs.Code.Texts.{text_of}

pub written-append : (a b : List Operation) → written_all (a ++ b) ≡ written_all a ++ written_all b
written-append [] b = refl
written-append (o ∷ a) b = ap (λ (t : List ℕ). written o ++ t) (written-append a b) ∙ sym (append_assoc (written o) (written_all a) (written_all b))

pub text_bin : (op : Binary) (l r : Tree) → text_of (bin op l r) ≡ text_of l ++ text_of r ++ written (operator_of op)
text_bin op l r =
    written-append (tree_ops l ++ tree_ops r) (operator_of op ∷ [])
    ∙ ap (λ (t : List ℕ). t ++ written_all (operator_of op ∷ [])) (written-append (tree_ops l) (tree_ops r))
    ∙ ap (λ (t : List ℕ). text_of l ++ text_of r ++ t) (append-nil (written (operator_of op)))

pub text_length : (t : Tree) → length (text_of t) ≡ len_of t
text_length (num n) = omega (arith, length-append (decimal n) (10 ∷ []), ap length (append-nil (written (record { kind = 0; operand = n }))))
text_length (bin op l r) =
    let a = text_length l in
    let b = text_length r in
    let e = ap length (text_bin op l r) in
    let f = length-append (text_of l ++ text_of r) (written (operator_of op)) in
    let g = length-append (text_of l) (text_of r) in
    omega arith

-- one operation less than twice k: k numbers, and an operator between each two
pub ops_length : (t : Tree) → length (tree_ops t) + 1 ≡ 2 * k_of t
ops_length (num n) = refl
ops_length (bin op l r) =
    let a = ops_length l in
    let b = ops_length r in
    let f = length-append (tree_ops l ++ tree_ops r) (operator_of op ∷ []) in
    let g = length-append (tree_ops l) (tree_ops r) in
    omega arith
