-- The compile statement of the three exports in a row.
use Rattle.std.specs.Prelude.{Result, Ok, Err}
use Rattle.context.specs.declared.ContextError.{ContextError}
use Prim.Native.Nat.{ℕ, ◌≤◌}
use native.Mathlib.Omega.{arith}
use mathlib.Core.Path.{◌≡◌, refl, sym, ap, subst, ◌∙◌}
use mathlib.Core.List.{List, [], ◌∷◌}
use mathlib.Core.Bool.{true}
use borrow.Author.Tests.{eq-eqb, le-leb}
use lib.ListN.{length, take, drop}
use lib.Seq.{take_at}
use Rattle.base.specs.Overwrite.{overwrite}
use Rattle.numbered.specs.declared.Numbered.{Numbered}
use Rattle.numbered.specs.Numbered.{carrying}
use Rattle.context.specs.declared.ContextError.TheVariants.{InvalidChainId, InvalidNetworkId, InvalidGenesisId, ProtocolMismatch, VmMismatch, GenesisMismatch}
use Rattle.context.specs.Gate.{gate_numbered}
use Rattle.ops.specs.Ops.{ops_of, kinds_of, operands_of}
use Rattle.checks.specs.Verify.{buffers_fit}
use Rattle.perform.specs.Numbers.{run_answer_numbered}
use Rattle.contract.proofs.Answers.{tells}
use Rattle.correctness.specs.Call.{Compilation, assembly_of, reading_of, with_program, transition_on}
use Rattle.correctness.specs.Statement.{Observed, Hypotheses, CompileStatement, observed_by, observed_in, used_after}
use Rattle.correctness.proofs.CompileStatement.{compile_statement}
use Rattle.correctness.proofs.Told.{used_told}
use Rattle.atc_vm.specs.Words.{Tells}
use Rattle.atc_vm.specs.Calls.{Read, Ran}
use Rattle.exported.specs.Exports.{Given, InRow, Lends}

-- what an export tells is a number
tells_is : {n m : Numbered} → Tells n m.words m.number → n ≡ m
tells_is {n} {m} t = λ i. record { number = sym t.number i; words = sym t.words i }

gate_passed : (g : Result (Unit {0}) ContextError) → (gate_numbered g).number ≡ 0 → g ≡ Ok tt
gate_passed (Ok tt) e = refl
gate_passed (Err InvalidChainId) e = absurd (omega arith)
gate_passed (Err InvalidNetworkId) e = absurd (omega arith)
gate_passed (Err InvalidGenesisId) e = absurd (omega arith)
gate_passed (Err ProtocolMismatch) e = absurd (omega arith)
gate_passed (Err VmMismatch) e = absurd (omega arith)
gate_passed (Err GenesisMismatch) e = absurd (omega arith)

fits : (ks vs s w m used : ℕ) → ks ≡ vs → 4096 ≤ s → w ≡ m → used ≤ m → buffers_fit ks vs s w m used ≡ true
fits ks vs s w m used a b c d = rw (eq-eqb ks vs a, le-leb 4096 s b, eq-eqb w m c, le-leb used m d)

module _ (x : Compilation) (n k p v : ℕ) (y : Given) (row : InRow x n y) (lends : Lends x n k p v y) where
  abbrev ks : List ℕ
  ks = y.left.kinds

  abbrev vs : List ℕ
  vs = y.left.operands

  accepts : (assembly_of x).answer ≡ carrying 0 (n ∷ k ∷ p ∷ v ∷ [])
  accepts = tells_is row.assembles.tells ∙ lends.accepts

  hypotheses : Hypotheses x n k p v
  hypotheses = record {
    accepts = accepts;
    kinds_room = lends.kinds;
    operands_room = lends.operands;
    passes = gate_passed x.context lends.passes;
    lent = fits (length x.run.kinds) (length x.run.operands) (length x.run.stack) (length x.run.work) (length x.run.storage) x.run.state.used (lends.kinds ∙ sym lends.operands) lends.stack lends.work lends.within;
    used = lends.used;
  }

  -- reading is lent exactly the text that assembly wrote
  text_is : take n y.left.out ≡ (assembly_of x).text
  text_is =
      let text = (assembly_of x).text in
      ap (take n) row.assembles.buffer ∙ take_at text (drop (length text) x.out) n (tells x.contract x.vector x.stem (length x.out) accepts).size

  reads : Read (assembly_of x).text x.run.kinds x.run.operands ks vs y.reading.words y.reading.number
  reads = subst (λ (l : List ℕ). Read l x.run.kinds x.run.operands ks vs y.reading.words y.reading.number) text_is row.reads

  abbrev read_kinds : List ℕ
  read_kinds = overwrite 0 (kinds_of (ops_of (reading_of x))) x.run.kinds

  abbrev read_operands : List ℕ
  read_operands = overwrite 0 (operands_of (ops_of (reading_of x))) x.run.operands

  abbrev RanOn : List ℕ → List ℕ → Type 0
  RanOn l m = Ran (transition_on x l m) y.left.stack y.left.work y.left.storage y.transition.words y.transition.number

  runs : RanOn read_kinds read_operands
  runs = subst (λ (l : List ℕ). RanOn l read_operands) reads.kinds_written (subst (λ (l : List ℕ). RanOn ks l) reads.operands_written row.runs)

  told : run_answer_numbered (transition_on x read_kinds read_operands).answer ≡ y.transition
  told = tells_is runs.tells

  found : observed_by x ≡ observed_in y.reading y.transition x.run.state.used y.left
  found = λ i. record {
    reading = tells_is reads.tells i;
    kinds = sym reads.kinds_written i;
    operands = sym reads.operands_written i;
    ending = record {
      numbered = told i;
      used = (used_told x.context (with_program x.run read_kinds read_operands) ∙ ap (λ (m : Numbered). used_after m x.run.state.used) told) i;
      stack = sym runs.stack_left i;
      work = sym runs.work_left i;
      storage = sym runs.storage_left i;
    };
  }

  pub exported_statement : CompileStatement x k p v (observed_in y.reading y.transition x.run.state.used y.left)
  exported_statement = subst (λ (z : Observed). CompileStatement x k p v z) found (compile_statement x n k p v hypotheses)
