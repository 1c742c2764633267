-- The operations that a tree is written as: each can be written, is read again as it is, and passes the verifier.
use Rattle.std.specs.Prelude.{Ok}
use Prim.Native.Nat.{ℕ, ◌*◌, ◌^◌, ◌<◌}
use native.Mathlib.Omega.{arith}
use mathlib.Core.Path.{◌≡◌, refl, ap, ◌∙◌}
use mathlib.Core.List.{List, [], ◌∷◌, ◌++◌, map}
use lib.ListN.{length, length-append}
use Rattle.word.specs.Apply.{Binary, add, sub, mul, div, eq, lt}
use Rattle.kinds.specs.Kinds.{Operation, operation}
use Rattle.ops.specs.Ops.{kinds_of, operands_of}
use Rattle.mnemonic.specs.Written.{cleared, IsOperation, Each, none, one}
use Rattle.machine.specs.Machine.{halt, decode}
use Rattle.checks.specs.Verify.{operation_check, operations_check}
use Rattle.grammar.specs.Tree.{Tree, num, bin, k_of}
use Rattle.grammar.specs.Written.{tree_ops}
use Rattle.grammar.specs.Code.Operator.{operator_of}
use Rattle.grammar.proofs.Written.{ops_length}
use Rattle.contract.specs.Output.{operations_of}
use Rattle.contract.proofs.Words.{Words}

pub record Fine (o : Operation) : Type 0 where
  pub writable : IsOperation o
  pub same : cleared o ≡ o
  pub passes : (n : ℕ) → operation_check n o ≡ Ok tt

pub each_append : {P : Operation → Type 0} {a b : List Operation} → Each P a → Each P b → Each P (a ++ b)
each_append none q = q
each_append (one p ps) q = one p (each_append ps q)

operator_fine : (o : Binary) → Fine (operator_of o)
operator_fine add = record { writable = omega arith; same = refl; passes = λ n. refl }
operator_fine sub = record { writable = omega arith; same = refl; passes = λ n. refl }
operator_fine mul = record { writable = omega arith; same = refl; passes = λ n. refl }
operator_fine div = record { writable = omega arith; same = refl; passes = λ n. refl }
operator_fine eq = record { writable = omega arith; same = refl; passes = λ n. refl }
operator_fine lt = record { writable = omega arith; same = refl; passes = λ n. refl }

number_fine : (n : ℕ) → n < 2 ^ 64 → Fine (operation 0 n)
number_fine n h = record { writable = omega arith; same = refl; passes = λ n. refl }

halt_fine : Fine halt
halt_fine = record { writable = omega arith; same = refl; passes = λ n. refl }

ops_fine : (t : Tree) → Words t → Each Fine (tree_ops t)
ops_fine (num n) h = one (number_fine n h) none
ops_fine (bin o l r) h = each_append (each_append (ops_fine l h.0) (ops_fine r h.1)) (one (operator_fine o) none)

pub operations_fine : (t : Tree) → Words t → Each Fine (operations_of t)
operations_fine t h = each_append (ops_fine t h) (one halt_fine none)

pub k_positive : (t : Tree) → 0 < k_of t
k_positive (num n) = omega arith
k_positive (bin op l r) = omega (arith, k_positive l)

pub operations-length : (t : Tree) → length (operations_of t) ≡ 2 * k_of t
operations-length t = omega (arith, length-append (tree_ops t) (halt ∷ []), ops_length t)

pub all_writable : {os : List Operation} → Each Fine os → Each IsOperation os
all_writable none = none
all_writable (one p ps) = one p.writable (all_writable ps)

pub all_same : {os : List Operation} → Each Fine os → map cleared os ≡ os
all_same none = refl
all_same (one {a = o} {l = os} p ps) = ap (λ (x : Operation). x ∷ map cleared os) p.same ∙ ap (λ (l : List Operation). o ∷ l) (all_same ps)

pub all_pass : (n : ℕ) {os : List Operation} → Each Fine os → operations_check n (kinds_of os) (operands_of os) ≡ Ok tt
unfolding operations_check
all_pass n none = refl
all_pass n (one {a = o} {l = os} p ps) = rw (p.passes n) (all_pass n ps)

-- the two buffers hold the program
pub decoded : (os : List Operation) → decode (kinds_of os) (operands_of os) ≡ os
unfolding decode
decoded [] = refl
decoded (o ∷ os) = ap (λ (l : List Operation). o ∷ l) (decoded os)
