-- The transition on a tree's operations: nothing before the run refuses it.
use Rattle.std.specs.Prelude.{Some}
use Rattle.std.specs.Prelude.{Ok}
use Prim.Native.Nat.{ℕ, ◌*◌, ◌≤◌}
use native.Mathlib.Omega.{arith}
use mathlib.Core.Path.{◌≡◌, refl}
use mathlib.Core.List.{List}
use mathlib.Core.Bool.{true}
use borrow.Author.Tests.{eq-eqb, le-leb, lt-ltb}
use lib.ListN.{length, length-map}
use Rattle.ops.specs.Ops.{kinds_of, operands_of}
use Rattle.checks.specs.Verify.{buffers_fit, verify_of}
use Rattle.perform.specs.Call.{Call}
use Rattle.perform.proofs.Laws.{lent}
use Rattle.vm.specs.Transition.{checks_of, transition_of}
use Rattle.grammar.specs.Tree.{Tree, value_of, k_of}
use Rattle.contract.specs.Output.{operations_of}
use Rattle.correctness.specs.Call.{with_program}
use Rattle.correctness.specs.Statement.{TreeRun, ending_of}
use Rattle.contract.proofs.Words.{Words}
use Rattle.correctness.proofs.Operations.{operations_fine, k_positive, operations-length, all_pass, decoded}
use Rattle.correctness.proofs.Run.{compiled}

module _ (t : Tree) where
  abbrev ks : List ℕ
  ks = kinds_of (operations_of t)

  abbrev vs : List ℕ
  vs = operands_of (operations_of t)

  pub kinds-length : length ks ≡ 2 * k_of t
  kinds-length = rw length-map (operations-length t)

  pub operands-length : length vs ≡ 2 * k_of t
  operands-length = rw length-map (operations-length t)

  verifies : Words t → k_of t ≤ 32768 → (used : ℕ) → used ≤ 65536 → verify_of ks vs used ≡ Ok tt
  verifies h k used u =
      rw (all_pass (length ks) (operations_fine t h), kinds-length, operands-length, eq-eqb (2 * k_of t) (2 * k_of t) refl, lt-ltb 0 (2 * k_of t) (omega (arith, k_positive t)), le-leb (2 * k_of t) 65536 (omega arith), le-leb used 65536 u)

  module _ (v : ℕ) (e : value_of t ≡ Some v) (h : Words t) (k : k_of t ≤ 32768) (x : Call) where
    -- the call with the tree's operations in its two program buffers
    abbrev y : Call
    y = with_program x ks vs

    pub transition : buffers_fit (2 * k_of t) (2 * k_of t) (length x.stack) (length x.work) (length x.storage) x.state.used ≡ true → x.state.used ≤ 65536
        → TreeRun t v x.limit x.state.used x.stack x.storage (ending_of (transition_of (Ok tt) y))
    transition b u =
        let fit : buffers_fit (length ks) (length vs) (length x.stack) (length x.work) (length x.storage) x.state.used ≡ true = rw (kinds-length, operands-length) b in
        let passes : checks_of (Ok tt) (Ok tt) y ≡ (Ok tt) = rw (fit, verifies h k x.state.used u) in
        let l = lent y fit in
        rw (passes, decoded (operations_of t)) (compiled t v e y l.same l.within)
