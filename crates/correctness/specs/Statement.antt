-- The compile statement of document 01: one claim about assembly, reading and transition in a row, in document 01's numbers.
use Rattle.std.specs.Prelude.{Some, Ok}
use Rattle.std.specs.Prelude.{ℕ, ◌-◌, ◌*◌, ◌≤◌, ◌<◌, ◌≡◌, List, [], ◌∷◌, true, cond, ◌↔◌, eqb, length, get_or, replicate}
use Rattle.base.specs.Ascii.{ascii}
use Rattle.base.specs.Overwrite.{overwrite}
use Rattle.numbered.specs.declared.Numbered.{Numbered}
use Rattle.numbered.specs.Numbered.{carrying, plain}
use Rattle.source.specs.Vector.{vector_number}
use Rattle.ops.specs.Ops.{answer_of, ops_of, kinds_of, operands_of}
use Rattle.ops.specs.Numbers.{parsed_ops_numbered}
use Rattle.checks.specs.Verify.{buffers_fit}
use Rattle.perform.specs.Numbers.{run_answer_numbered}
use Rattle.perform.specs.Run.{RunResult}
use Rattle.grammar.specs.Tree.{Tree, value_of, k_of, p_of}
use Rattle.base.specs.Outcome.{is}
use Rattle.contract.specs.Assembled.{assembled_tree}
use Rattle.contract.specs.Output.{operations_of}
use Rattle.correctness.specs.Counting.{price, op_at, cost_before, FirstUnpaid, FirstFull}
use Rattle.correctness.specs.Call.{Compilation, Left, assembly_of, reading_of, transition_on}

-- how a transition ends: its number and words, the used length after it, and the three buffers
pub record Ending : Type 0 where
  pub numbered : Numbered
  pub used : ℕ
  pub stack : List ℕ
  pub work : List ℕ
  pub storage : List ℕ

-- what is found after the three calls: the number and words of reading, the program buffers as it left them, and how the transition ended
pub record Observed : Type 0 where
  pub reading : Numbered
  pub kinds : List ℕ
  pub operands : List ℕ
  pub ending : Ending

-- what a success costs: k pushes of 1, and k − 1 operators of 2
abbrev pub gas_of : Tree → ℕ
gas_of t = 3 * k_of t - 2

-- out of gas, 46, at operation i: its price, and what is left of g there
abbrev pub out_of_gas_at : Tree → ℕ → ℕ → Numbered
out_of_gas_at t g i = carrying 46 (price (op_at (operations_of t) i) ∷ (g - cost_before (operations_of t) i) ∷ [])

abbrev pub stack_full : Numbered
stack_full = plain 48

-- a success of the program of t with the value v: gas, operations, items, used length; the stack buffer, which was s, holds the value,
-- then zeros
pub record SucceedsWith (t : Tree) (v used : ℕ) (s : List ℕ) (r : Ending) : Type 0 where
  pub numbered : r.numbered ≡ carrying 0 (gas_of t ∷ 2 * k_of t ∷ 1 ∷ used ∷ [])
  pub stack : r.stack ≡ v ∷ replicate (length s - 1) 0

-- a refusal clears the stack buffer, which was s
pub record RefusedWith (f : Numbered) (s : List ℕ) (r : Ending) : Type 0 where
  pub numbered : r.numbered ≡ f
  pub stack : r.stack ≡ replicate (length s) 0

-- the program of the tree t, whose value is v, run under the limit g, with the stack buffer s and the storage buffer m
pub record TreeRun (t : Tree) (v g used : ℕ) (s m : List ℕ) (r : Ending) : Type 0 where
  -- in every case
  pub storage : r.storage ≡ m
  pub after : r.used ≡ used
  pub work : r.work ≡ replicate (length m) 0
  -- when it succeeds, and with what
  pub exact : (r.numbered.number ≡ 0) ↔ ((gas_of t ≤ g) × (p_of t ≤ 4096))
  pub success : gas_of t ≤ g → p_of t ≤ 4096 → SucceedsWith t v used s r
  -- how it is refused: out of gas; stack full; whichever of the two is met first, and the price comes first
  pub gas : g < gas_of t → p_of t ≤ 4096 → (i : ℕ) × FirstUnpaid (operations_of t) g i × RefusedWith (out_of_gas_at t g i) s r
  pub full : gas_of t ≤ g → 4096 < p_of t → RefusedWith stack_full s r
  pub first : g < gas_of t → 4096 < p_of t
      → (i : ℕ) × (j : ℕ) × FirstUnpaid (operations_of t) g i × FirstFull (operations_of t) j
      × (i ≤ j → RefusedWith (out_of_gas_at t g i) s r) × (j < i → RefusedWith stack_full s r)

-- what is assumed: the contract is document 01's accepted, since assembly answers 0; both program buffers have 2k entries; the context
-- passes; the state and its buffers are admitted, neither 34 nor 43 applying
pub record Hypotheses (x : Compilation) (n k p v : ℕ) : Type 0 where
  pub accepts : (assembly_of x).answer ≡ carrying 0 (n ∷ k ∷ p ∷ v ∷ [])
  pub kinds_room : length x.run.kinds ≡ 2 * k
  pub operands_room : length x.run.operands ≡ 2 * k
  pub passes : x.context ≡ Ok tt
  pub lent : buffers_fit (length x.run.kinds) (length x.run.operands)
      (length x.run.stack) (length x.run.work) (length x.run.storage) x.run.state.used ≡ true
  pub used : x.run.state.used ≤ 65536

-- what follows for what is found
pub record CompileStatement (x : Compilation) (k p v : ℕ) (y : Observed) : Type 0 where
  -- k, p and the value are those of the last return's tree, from contract and vector alone; the value is the vector's `expected`
  pub tree : Tree
  pub assembles : assembled_tree x.contract x.vector ≡ is (v, tree)
  pub k_counts : k ≡ k_of tree
  pub p_counts : p ≡ p_of tree
  pub value : value_of tree ≡ Some v
  pub expected : vector_number x.vector (ascii "expected") ≡ Ok v
  -- reading answers 0 with 2k operations, and both buffers are filled with the tree's
  pub reads : y.reading ≡ carrying 0 (2 * k ∷ [])
  pub kinds_filled : y.kinds ≡ kinds_of (operations_of tree)
  pub operands_filled : y.operands ≡ operands_of (operations_of tree)
  pub operations : length (operations_of tree) ≡ 2 * k
  -- the transition takes the two buffers as reading left them
  pub transition : TreeRun tree v x.run.limit x.run.state.used x.run.stack x.run.storage y.ending

-- what is found by the definitions of the three calls
abbrev pub ending_of : RunResult → Ending
ending_of r = record { numbered = run_answer_numbered r.answer; used = r.state.used; stack = r.stack; work = r.work; storage = r.storage }

abbrev pub observed_by : Compilation → Observed
observed_by x =
    let kinds = overwrite 0 (kinds_of (ops_of (reading_of x))) x.run.kinds in
    let operands = overwrite 0 (operands_of (ops_of (reading_of x))) x.run.operands in
    record {
      reading = parsed_ops_numbered (answer_of (reading_of x));
      kinds = kinds;
      operands = operands;
      ending = ending_of (transition_on x kinds operands);
    }

-- what a caller finds, who has lent the used length and the buffers: a success has the used length as its fourth word, a refusal leaves it
abbrev pub used_after : Numbered → ℕ → ℕ
used_after n used = cond (eqb n.number 0) (get_or n.words 3 0) used

abbrev pub observed_in : (reading transition : Numbered) (used : ℕ) → Left → Observed
observed_in reading transition used b = record {
  reading = reading;
  kinds = b.kinds;
  operands = b.operands;
  ending = record { numbered = transition; used = used_after transition used; stack = b.stack; work = b.work; storage = b.storage };
}
