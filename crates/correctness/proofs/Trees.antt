-- A tree's program: its sizes, its shape, and its run: gas and the stack's height alone decide where it ends.
use Rattle.std.specs.Prelude.{Option, Some, None}
use Prim.Native.Nat.{ℕ, suc, ◌+◌, ◌-◌, ◌*◌, max}
use native.Mathlib.Omega.{arith}
use mathlib.Core.Path.{◌≡◌, refl, ◌∙◌}
use mathlib.Core.List.{List, [], ◌∷◌, ◌++◌, append_assoc}
use mathlib.Core.Bool.{Bool, true, false, not, cond}
use lib.ListN.{length, length-append}
use lib.Dec.{ltb}
use borrow.Author.Tests.{le-ltb}
use Rattle.base.specs.Outcome.{is, refused, and_then}
use Rattle.word.specs.Apply.{Binary, add, sub, mul, div, eq, lt, apply}
use Rattle.kinds.specs.Kinds.{Operation, operation}
use Rattle.mnemonic.specs.Written.{Each, none as no_more, one}
use Rattle.machine.specs.Machine.{out_of_gas, stack_limit_exceeded, Frame, moves, fails, Progress, next, done, stop, push_of, result_of as ofValue, binop_of, effect_of, settle, follow, halt, start, run_to_end}
use Rattle.grammar.specs.Tree.{Tree, num, bin, applied, value_of, k_of, p_of}
use Rattle.grammar.specs.Written.{tree_ops}
use Rattle.grammar.specs.Code.Operator.{operator_of}
use Rattle.grammar.proofs.Written.{ops_length}
use Rattle.contract.specs.Output.{operations_of}
use Rattle.correctness.specs.Counting.{price, is_push, is_operator, cost}
use Rattle.correctness.proofs.Trace.{Metered, onward, trace, rise, rises, rises_append, trace_append, Sound, peak}
use Rattle.correctness.proofs.Straight.{line, line_append, Goes, Plain, whole_line}
use Rattle.correctness.proofs.Operations.{each_append}

-- a tree's operator, as the counts and the machine take it
record Operator (b : Binary) : Type 0 where
  pub price_two : price (operator_of b) ≡ 2
  pub no_push : is_push (operator_of b) ≡ 0
  pub counts : is_operator (operator_of b) ≡ 1
  pub does : (c room : ℕ) → effect_of c room (operator_of b) ≡ binop_of b

operator : (b : Binary) → Operator b
unfolding price is_push is_operator
operator add = record { price_two = refl; no_push = refl; counts = refl; does = λ c room. refl }
operator sub = record { price_two = refl; no_push = refl; counts = refl; does = λ c room. refl }
operator mul = record { price_two = refl; no_push = refl; counts = refl; does = λ c room. refl }
operator div = record { price_two = refl; no_push = refl; counts = refl; does = λ c room. refl }
operator eq = record { price_two = refl; no_push = refl; counts = refl; does = λ c room. refl }
operator lt = record { price_two = refl; no_push = refl; counts = refl; does = λ c room. refl }

-- sizes
cost_append : (a b : List Operation) → cost (a ++ b) ≡ cost a + cost b
unfolding cost
cost_append [] b = omega arith
cost_append (x ∷ a) b = omega (arith, cost_append a b)

ops_cost : (t : Tree) → cost (tree_ops t) + 2 ≡ 3 * k_of t
unfolding cost price
ops_cost (num n) = refl
ops_cost (bin o l r) = simp cost_append (omega (arith, (operator o).price_two, ops_cost l, ops_cost r))

pub program_cost : (t : Tree) → cost (operations_of t) + 2 ≡ 3 * k_of t
unfolding cost price
program_cost t = rw cost_append (omega (arith, ops_cost t))

-- the shape: no operation jumps
pushes_on : (v : ℕ) (s m : List ℕ) → Goes (push_of v s m)
pushes_on v s m = go (ltb (length s) 4096)
  where
    go : (b : Bool) → Goes (cond b (moves (v ∷ s) m) (fails stack_limit_exceeded))
    go true = tt
    go false = tt

takes_two : (o : Binary) (s m : List ℕ) → Goes (binop_of o s m)
takes_two o [] m = tt
takes_two o (b ∷ []) m = tt
takes_two o (b ∷ a ∷ s) m = go (apply o a b)
  where
    go : (x : Option ℕ) → Goes (ofValue x s m)
    go None = tt
    go (Some v) = tt

plain : (t : Tree) → Each Plain (tree_ops t)
plain (num n) = one (λ c room s m. pushes_on n s m) no_more
plain (bin o l r) = each_append (each_append (plain l) (plain r)) (one (λ c room s m. rw ((operator o).does c room) (takes_two o s m)) no_more)

-- no operator meets too few items, and the greatest height is p
after_two : (o : Binary) (h : ℕ) → rise (operator_of o) (suc (suc h)) ≡ suc h
after_two o h = omega (arith, (operator o).no_push, (operator o).counts)

sound : (t : Tree) (rest : List Operation) (h : ℕ) → Sound rest (suc h) → Sound (tree_ops t ++ rest) h
unfolding Sound is_push is_operator
sound (num n) rest h s = let e : (h + 1) - 0 ≡ suc h = omega arith in (omega arith, rw e s)
sound (bin o l r) rest h s =
    rw (append_assoc, append_assoc)
    (sound l (tree_ops r ++ (operator_of o ∷ rest)) h (sound r (operator_of o ∷ rest) (suc h) (omega (arith, (operator o).counts), rw (after_two o h) s)))

pub program_sound : (t : Tree) → Sound (operations_of t) 0
unfolding Sound is_operator
program_sound t = sound t (halt ∷ []) 0 (omega arith, tt)

peak_tree : (t : Tree) (rest : List Operation) (h : ℕ) → peak (tree_ops t ++ rest) h ≡ max (h + p_of t) (peak rest (suc h))
unfolding peak is_push is_operator
peak_tree (num n) rest h = let e : (h + 1) - 0 ≡ suc h = omega arith in rw e (omega arith)
peak_tree (bin o l r) rest h =
    rw (append_assoc, append_assoc, peak_tree l (tree_ops r ++ (operator_of o ∷ rest)) h, peak_tree r (operator_of o ∷ rest) (suc h), after_two o h, (operator o).no_push) (omega arith)

pub program_peak : (t : Tree) → peak (operations_of t) 0 ≡ p_of t
unfolding peak is_push
program_peak t = rw (peak_tree t (halt ∷ []) 0) (omega arith)

-- one item more, and the trace of an operator's two sides
rises_tree : (t : Tree) (h : ℕ) → rises (tree_ops t) h ≡ suc h
unfolding rises is_push is_operator
rises_tree (num n) h = omega arith
rises_tree (bin o l r) h = simp (rises_append, rises_tree l h, rises_tree r (suc h)) (after_two o h)

abbrev spend : ℕ → Metered
spend g = cond (ltb g 2) (refused (out_of_gas 2 g)) (is (g - 2))

trace_bin : (o : Binary) (l r : Tree) (g h : ℕ) → trace (tree_ops (bin o l r)) g h ≡ and_then (trace (tree_ops l) g h) (λ g₁. and_then (trace (tree_ops r) g₁ (suc h)) spend)
unfolding trace
trace_bin o l r g h = rw append_assoc (simp (trace_append, rises_tree l h, rises_tree r (suc h), (operator o).price_two, (operator o).no_push))

program_trace : (t : Tree) (g : ℕ) → trace (operations_of t) g 0 ≡ trace (tree_ops t) g 0
unfolding trace price is_push
program_trace t g = rw (trace_append (tree_ops t) (halt ∷ []) g 0) (go (trace (tree_ops t) g 0))
  where
    go : (x : Metered) → and_then x (λ g'. trace (halt ∷ []) g' (rises (tree_ops t) 0)) ≡ x
    go (is g') = let e : g' - 0 ≡ g' = omega arith in rw (le-ltb g' 0 (omega arith), e)
    go (refused f) = refl

-- a value's parts
abbrev Parts : Binary → Option ℕ → Option ℕ → ℕ → Type 0
Parts o x y v = (a : ℕ) × (b : ℕ) × (x ≡ Some a) × (y ≡ Some b) × (apply o a b ≡ Some v)

parts : (o : Binary) (x y : Option ℕ) (v : ℕ) → applied o x y ≡ Some v → Parts o x y v
parts o None y v e = let z : ◌≡◌ {A = ℕ} 0 1 = cc in absurd (omega arith)
parts o (Some a) None v e = let z : ◌≡◌ {A = ℕ} 0 1 = cc in absurd (omega arith)
parts o (Some a) (Some b) v e = (a, b, refl, refl, e)

onward_then : (x : Metered) (h : ℕ → Metered) (f : ℕ → Progress) → onward (and_then x h) f ≡ onward x (λ g. onward (h g) f)
onward_then (is g) h f = refl
onward_then (refused r) h f = refl

-- a frame n operations on, with the stack s
abbrev grown : Frame → ℕ → List ℕ → Frame
grown fr n s = record { pos = fr.pos + n; stack = s; storage = fr.storage; ops = fr.ops + n }

module _ (c room : ℕ) where
  do_two : (o : Binary) (a b v : ℕ) → apply o a b ≡ Some v → (f : ℕ → Frame → Progress) (g n : ℕ) (s : List ℕ) (fr : Frame)
      → line c room f (operator_of o ∷ []) g (grown fr n (b ∷ a ∷ s)) ≡ onward (spend g) (λ g'. f g' (grown (grown fr n (b ∷ a ∷ s)) 1 (v ∷ s)))
  unfolding line price
  do_two o a b v e f g n s fr = rw ((operator o).price_two, (operator o).does c room, e) (go (ltb g 2))
    where
      go : (q : Bool) → follow (cond q (stop (out_of_gas 2 g)) (next (g - 2) (grown (grown fr n (b ∷ a ∷ s)) 1 (v ∷ s)))) f ≡ onward (cond q (refused (out_of_gas 2 g)) (is (g - 2))) (λ g'. f g' (grown (grown fr n (b ∷ a ∷ s)) 1 (v ∷ s)))
      go true = refl
      go false = refl

  do_push : (f : ℕ → Frame → Progress) (v g : ℕ) (fr : Frame) → line c room f (operation 0 v ∷ []) g fr ≡ onward (trace (operation 0 v ∷ []) g (length fr.stack)) (λ g'. f g' (grown fr 1 (v ∷ fr.stack)))
  unfolding line trace price is_push
  do_push f v g fr = go (ltb g 1) (ltb (length fr.stack) 4096)
    where
      go : (q q' : Bool)
          → follow (cond q (stop (out_of_gas 1 g)) (settle (g - 1) fr (cond q' (moves (v ∷ fr.stack) fr.storage) (fails stack_limit_exceeded)))) f
          ≡ onward (cond q (refused (out_of_gas 1 g)) (cond (not q') (refused stack_limit_exceeded) (is (g - 1)))) (λ g'. f g' (grown fr 1 (v ∷ fr.stack)))
      go true true = refl
      go true false = refl
      go false true = refl
      go false false = refl

  -- from any frame, whatever follows
  agree : (t : Tree) (v : ℕ) → value_of t ≡ Some v → (f : ℕ → Frame → Progress) (g : ℕ) (fr : Frame)
      → line c room f (tree_ops t) g fr ≡ onward (trace (tree_ops t) g (length fr.stack)) (λ g'. f g' (grown fr (length (tree_ops t)) (v ∷ fr.stack)))
  agree (num n) v e f g fr = let q : n ≡ v = cc in rw (← q) (do_push f n g fr)
  agree (bin o l r) v e f g fr =
      let w = parts o (value_of l) (value_of r) v e in
      let n : length (tree_ops (bin o l r)) ≡ length (tree_ops l) + (length (tree_ops r) + 1) = rw append_assoc (simp length-append) in
      let i : fr.pos + (length (tree_ops l) + (length (tree_ops r) + 1)) ≡ ((fr.pos + length (tree_ops l)) + length (tree_ops r)) + 1 = omega arith in
      let j : fr.ops + (length (tree_ops l) + (length (tree_ops r) + 1)) ≡ ((fr.ops + length (tree_ops l)) + length (tree_ops r)) + 1 = omega arith in
      simp (n, i, j, line_append, agree l w.0 w.2, agree r w.1 w.3, do_two o w.0 w.1 v w.4, trace_bin o l r, onward_then)

-- the frame that a success ends at
abbrev pub last : Tree → ℕ → List ℕ → Frame
last t v m = record { pos = length (tree_ops t); stack = v ∷ []; storage = m; ops = 2 * k_of t }

halts : (c room : ℕ) (f : ℕ → Frame → Progress) (g : ℕ) (t : Tree) (v : ℕ) (m : List ℕ)
    → line c room f (halt ∷ []) g (grown (start m) (length (tree_ops t)) (v ∷ [])) ≡ done g (last t v m)
unfolding line
halts c room f g t v m =
    let a : 0 + length (tree_ops t) ≡ length (tree_ops t) = omega arith in
    let b : 0 + length (tree_ops t) + 1 ≡ 2 * k_of t = omega (arith, ops_length t) in
    let d : g - 0 ≡ g = omega arith in
    rw (le-ltb g 0 (omega arith)) (rw d (rw b (rw a)))

-- gas and height alone decide
pub decided : (t : Tree) (v : ℕ) → value_of t ≡ Some v → (c room g : ℕ) (m : List ℕ) → run_to_end (operations_of t) c room g m ≡ onward (trace (operations_of t) g 0) (λ g'. done g' (last t v m))
decided t v e c room g m =
    rw (program_trace t g)
    (whole_line (operations_of t) (each_append (plain t) (one (λ c room s m. tt) no_more)) c room g m ∙ rw (line_append, agree c room t v e) (simp halts))

-- the same by the tree, where no list is made: for examples
unfoldable pub meter : Tree → ℕ → ℕ → Metered
meter (num n) g h = cond (ltb g 1) (refused (out_of_gas 1 g)) (cond (not (ltb h 4096)) (refused stack_limit_exceeded) (is (g - 1)))
meter (bin o l r) g h = and_then (meter l g h) (λ g₁. and_then (meter r g₁ (suc h)) (λ g₂. cond (ltb g₂ 2) (refused (out_of_gas 2 g₂)) (is (g₂ - 2))))

trace_meter : (t : Tree) (g h : ℕ) → trace (tree_ops t) g h ≡ meter t g h
unfolding trace meter price is_push
trace_meter (num n) g h = refl
trace_meter (bin o l r) g h = simp (trace_bin o l r, trace_meter l, trace_meter r)

pub metered : (t : Tree) (g : ℕ) → trace (operations_of t) g 0 ≡ meter t g 0
metered t g = program_trace t g ∙ trace_meter t g 0
