-- The compile statement.
use Prim.Native.Nat.{ℕ, ◌*◌, min}
use native.Mathlib.Omega.{arith}
use mathlib.Core.Path.{◌≡◌, sym, ap, ◌∙◌}
use mathlib.Core.List.{List, [], ◌∷◌}
use mathlib.Core.Bool.{true}
use lib.ListN.{length}
use Rattle.base.specs.Overwrite.{overwrite}
use Rattle.ops.specs.Ops.{Reading, read_text, answer_of, ops_of, kinds_of, operands_of}
use Rattle.base.proofs.Overwrite.{overwrite_all}
use Rattle.ops.specs.Numbers.{parsed_ops_numbered}
use Rattle.checks.specs.Verify.{buffers_fit}
use Rattle.grammar.specs.Tree.{k_of}
use Rattle.numbered.specs.Numbered.{carrying}
use Rattle.contract.specs.Output.{operations_of}
use Rattle.base.specs.Outcome.{is}
use Rattle.correctness.specs.Call.{Compilation, reading_of}
use Rattle.correctness.specs.Statement.{Hypotheses, CompileStatement, observed_by}
use Rattle.contract.proofs.Accepted.{accepted_is}
use Rattle.contract.proofs.Answers.{tells}
use Rattle.correctness.proofs.Operations.{operations-length}
use Rattle.correctness.proofs.Reading.{reads_output}
use Rattle.correctness.proofs.Transition.{kinds-length, operands-length, transition}

pub compile_statement : (x : Compilation) (n k p v : ℕ) → Hypotheses x n k p v → CompileStatement x k p v (observed_by x)
compile_statement x n k p v a =
    let d = tells x.contract x.vector x.stem (length x.out) a.accepts in
    let t = d.tree in
    let acc = accepted_is x.vector v t x.contract d.assembles in
    let kinds = x.run.kinds in
    let operands = x.run.operands in
    let k-is = d.k_counts in
    let ks-room = a.kinds_room in
    let vs-room = a.operands_room in
    let ks-length = kinds-length t in
    let vs-length = operands-length t in
    let reading : reading_of x ≡ is (operations_of t) =
    ap (λ (text : List ℕ). read_text text (min (length kinds) (length operands))) d.text_is ∙ reads_output x.stem v t d.stem_fits_lem acc.fits.0 (min (length kinds) (length operands)) (omega arith) in
    let ks-full : overwrite 0 (kinds_of (ops_of (reading_of x))) kinds ≡ kinds_of (operations_of t) =
    ap (λ (r : Reading). overwrite 0 (kinds_of (ops_of r)) kinds) reading ∙ overwrite_all (kinds_of (operations_of t)) kinds (omega arith) in
    let vs-full : overwrite 0 (operands_of (ops_of (reading_of x))) operands ≡ operands_of (operations_of t) =
    ap (λ (r : Reading). overwrite 0 (operands_of (ops_of r)) operands) reading ∙ overwrite_all (operands_of (operations_of t)) operands (omega arith) in
    let count : length (operations_of t) ≡ 2 * k = operations-length t ∙ ap (λ (i : ℕ). 2 * i) (sym k-is) in
    let ks-is : length kinds ≡ 2 * k_of t = omega arith in
    let vs-is : length operands ≡ 2 * k_of t = omega arith in
    let fit : buffers_fit (2 * k_of t) (2 * k_of t) (length x.run.stack) (length x.run.work) (length x.run.storage) x.run.state.used ≡ true = rw (ks-is, vs-is) at a.lent in
    record {
      tree = t;
      assembles = d.assembles;
      k_counts = k-is;
      p_counts = d.p_counts;
      value = acc.value;
      expected = acc.expected;
      reads = ap (λ (r : Reading). parsed_ops_numbered (answer_of r)) reading ∙ ap (λ (i : ℕ). carrying 0 (i ∷ [])) count;
      kinds_filled = ks-full;
      operands_filled = vs-full;
      operations = count;
      transition = rw (ks-full, vs-full, a.passes) (transition t v acc.value acc.fits.0 acc.fits.1 x.run fit a.used);
    }
