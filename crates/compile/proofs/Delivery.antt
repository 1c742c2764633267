-- The compile statement of a call, from what the call composes.
use Rattle.std.specs.Prelude.{Result, Ok, Err}
use Rattle.checks.specs.declared.VmError.{VmError}
use Rattle.perform.specs.declared.Success.{Success}
use Prim.Native.Nat.{ℕ, ◌*◌}
use native.Mathlib.Omega.{arith}
use mathlib.Core.Path.{◌≡◌, sym, ap, subst, ◌∙◌}
use mathlib.Core.List.{[], ◌∷◌}
use lib.ListN.{length}
use Rattle.numbered.specs.Numbered.{carrying}
use Rattle.numbered.proofs.Told.{word_told}
use Rattle.base.specs.Outcome.{is, refused}
use Rattle.ops.specs.Ops.{Reading, answer_of, ops_of}
use Rattle.ops.specs.Numbers.{parsed_ops_numbered}
use Rattle.perform.specs.Numbers.{run_answer_numbered}
use Rattle.perform.specs.Run as Run
use Rattle.correctness.specs.Call.{Compilation, Left, reading_of, with_program}
use Rattle.correctness.specs.Statement.{Observed, Hypotheses, CompileStatement, observed_by, observed_in}
use Rattle.correctness.proofs.CompileStatement.{compile_statement}
use Rattle.correctness.proofs.Told.{read_told, used_told}
use Rattle.compile.specs.declared.Compiled.{Compiled}
use Rattle.compile.specs.declared.CompileError.{CompileError}
use Rattle.compile.specs.declared.CompileError.TheVariants.{NotAssembled, NotRead}
use Rattle.assembler.specs.Answers.{assembly_numbered}
use Rattle.compile.specs.Answer.{ran, compile_answer_of}
use Rattle.compile.specs.Compile.{CompileResult, read_in, run_on, ran_in, after_reading, after_assembly, compile_of, Composes}
use Rattle.compile.specs.Delivery.{Delivered, Delivers}

-- an answer that is a run is the code's
ran_is : (r : Result Compiled CompileError) {n k p v j : ℕ} {a : Result Success VmError} → compile_answer_of r ≡ ran (carrying 0 (n ∷ k ∷ p ∷ v ∷ [])) j a
    → r ≡ Ok (record { assembly = record { written = n; k = k; p = p; value = v }; operations = j; answer = a })
ran_is (Err (NotAssembled why)) e = absurd (let z : ◌≡◌ {A = ℕ} 0 1 = cc in omega arith)
ran_is (Err (NotRead x)) e = absurd (let z : ◌≡◌ {A = ℕ} 0 1 = cc in omega arith)
ran_is (Ok c) {n} {k} {p} {v} {j} {a} e =
    let q : assembly_numbered c.assembly ≡ carrying 0 (n ∷ k ∷ p ∷ v ∷ []) = cc in
    let n-is : c.assembly.written ≡ n = word_told 0 q in
    let k-is : c.assembly.k ≡ k = word_told 1 q in
    let p-is : c.assembly.p ≡ p = word_told 2 q in
    let v-is : c.assembly.value ≡ v = word_told 3 q in
    let j-is : c.operations ≡ j = cc in
    let a-is : c.answer ≡ a = cc in
    λ i. Ok (record { assembly = record { written = n-is i; k = k-is i; p = p-is i; value = v-is i }; operations = j-is i; answer = a-is i })

module _ (x : Compilation) (n k p v : ℕ) where
  -- where j operations are read
  abbrev finished : ℕ → Reading → CompileResult
  finished j y = record { answer = ran (carrying 0 (n ∷ k ∷ p ∷ v ∷ [])) j (run_on x (read_in x (ops_of y))).answer; left = ran_in x (read_in x (ops_of y)) }

  read_is : (y : Reading) (j : ℕ) → answer_of y ≡ Ok j → after_reading x (carrying 0 (n ∷ k ∷ p ∷ v ∷ [])) y ≡ finished j y
  read_is (refused e) j q = absurd (let z : ◌≡◌ {A = ℕ} 0 1 = cc in omega arith)
  read_is (is os) j q = let z : length os ≡ j = cc in ap (λ (i : ℕ). finished i (is os)) z

  finishes : Hypotheses x n k p v → answer_of (reading_of x) ≡ Ok (2 * k) → compile_of x ≡ finished (2 * k) (reading_of x)
  unfolding compile_of
  finishes h q = ap (after_assembly x) h.accepts ∙ read_is (reading_of x) (2 * k) q

module _ (x : Compilation) {r : Result Compiled CompileError} {b : Left} (c : Composes (compile_of x) r b) where
  delivered : (n k p v : ℕ) → Hypotheses x n k p v → Delivered x n k p v r b
  delivered n k p v h =
      let st = compile_statement x n k p v h in
      let reads = read_told (answer_of (reading_of x)) (2 * k) st.reads in
      let d = subst (λ (z : CompileResult). Composes z r b) (finishes x n k p v h reads) c in
      let program : Left = read_in x (ops_of (reading_of x)) in
      let t : Run.RunResult = run_on x program in
      let found : observed_by x ≡ observed_in (parsed_ops_numbered (Ok (2 * k))) (run_answer_numbered t.answer) x.run.state.used b = λ i. record {
        reading = parsed_ops_numbered (reads i);
        kinds = sym d.kinds i;
        operands = sym d.operands i;
        ending = record {
          numbered = run_answer_numbered t.answer;
          used = used_told x.context (with_program x.run program.kinds program.operands) i;
          stack = sym d.stack i;
          work = sym d.work i;
          storage = sym d.storage i;
        };
      } in
      record { transition = t.answer; answer = ran_is r d.answer; states = subst (λ (y : Observed). CompileStatement x k p v y) found st }

-- what a call promises
pub delivers : {x : Compilation} {r : Result Compiled CompileError} {b : Left} → Composes (compile_of x) r b → Delivers x r b
delivers {x} c = record { composes = c; states = delivered x c }
