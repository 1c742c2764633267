-- The operations that were read stand at the front of both buffers.
use Rattle.std.specs.Prelude.{Result, Ok}
use Rattle.operation.specs.declared.OpsError.{OpsError}
use Prim.Native.Nat.{ℕ, suc, ◌≤◌, min}
use mathlib.Core.Path.{◌≡◌, refl, sym, ap, ◌∙◌}
use mathlib.Core.List.{List, [], ◌∷◌, map}
use native.Mathlib.Omega.{arith}
use lib.ListN.{length, take, drop, length-append}
use lib.Seq.{take_at}
use Rattle.base.specs.Overwrite.{overwrite}
use Rattle.base.specs.Outcome.{is, refused}
use Rattle.kinds.specs.Kinds.{Operation}
use Rattle.ops.specs.Ops.{Reading, read_text, answer_of, ops_of, kinds_of, operands_of, ReadsOps}

-- operations are the first n entries of two buffers
pub record Front (os : List Operation) (n : ℕ) (ks vs : List ℕ) : Type 0 where
  pub kinds_fit : n ≤ length ks
  pub operands_fit : n ≤ length vs
  pub kinds : take n ks ≡ kinds_of os
  pub operands : take n vs ≡ operands_of os

length_each : (f : Operation → ℕ) (os : List Operation) → length (map f os) ≡ length os
length_each f [] = refl
length_each f (o ∷ os) = ap suc (length_each f os)

-- one number of each operation, written over a buffer's start
module _ (f : Operation → ℕ) (os : List Operation) (buffer after : List ℕ) (n : ℕ) (e : after ≡ overwrite 0 (map f os) buffer) (k : n ≡ length os) where
  fits : n ≤ length after
  fits = omega (arith, ap length e, length-append (map f os) (drop (length (map f os)) buffer), length_each f os)

  is_front : take n after ≡ map f os
  is_front = ap (take n) e ∙ take_at (map f os) (drop (length (map f os)) buffer) n (length_each f os ∙ sym k)

-- the number of operations is that of the answer
pub count : (x : Reading) (n : ℕ) → Ok n ≡ answer_of x → n ≡ length (ops_of x)
count (is os) n e = cc
count (refused x) n e = absurd (let z : ◌≡◌ {A = ℕ} 0 1 = cc in omega arith)

-- after reading, n being that number, or 0 where it was refused
pub front : (text ks vs ks' vs' : List ℕ) (r : Result ℕ OpsError) (n : ℕ) → ReadsOps text ks vs ks' vs' r → n ≡ length (ops_of (read_text text (min (length ks) (length vs))))
    → Front (ops_of (read_text text (min (length ks) (length vs)))) n ks' vs'
front text ks vs ks' vs' r n p k =
    let os = ops_of (read_text text (min (length ks) (length vs))) in
    record {
      kinds_fit = fits (λ o. o.kind) os ks ks' n p.kinds_written k;
      operands_fit = fits (λ o. o.operand) os vs vs' n p.operands_written k;
      kinds = is_front (λ o. o.kind) os ks ks' n p.kinds_written k;
      operands = is_front (λ o. o.operand) os vs vs' n p.operands_written k;
    }

pub read_front : (text ks vs ks' vs' : List ℕ) (r : Result ℕ OpsError) (n : ℕ) → ReadsOps text ks vs ks' vs' r → r ≡ Ok n
    → Front (ops_of (read_text text (min (length ks) (length vs)))) n ks' vs'
read_front text ks vs ks' vs' r n p e = front text ks vs ks' vs' r n p (count (read_text text (min (length ks) (length vs))) n (sym e ∙ p.answer))
