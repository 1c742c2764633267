-- The promises of the three calls, put together.
use Rattle.std.specs.Prelude.{Result, Ok, Err}
use Rattle.checks.specs.declared.VmError.{VmError}
use Prim.Native.Nat.{ℕ}
use native.Mathlib.Omega.{arith}
use mathlib.Core.Path.{◌≡◌, refl, sym, ap, subst, ◌∙◌}
use mathlib.Core.List.{List}
use lib.Dec.{eqb}
use lib.ListN.{length, take, drop}
use lib.Seq.{take_at}
use Rattle.numbered.specs.declared.Numbered.{Numbered}
use Rattle.base.specs.Overwrite.{overwrite}
use Rattle.ops.specs.Ops.{Reading, answer_of, ops_of, kinds_of, operands_of, ReadsOps}
use Rattle.base.specs.Outcome.{is, refused}
use Rattle.operation.specs.declared.OpsError.{OpsError}
use Rattle.perform.specs.Run.{Meets}
use Rattle.scope.specs.declared.refusal.AssembleError.{AssembleError}
use Rattle.contract.proofs.Answers.{tells, never_0, no_text}
use Rattle.assembler.specs.declared.Assembly.{Assembly}
use Rattle.perform.specs.declared.Success.{Success}
use Rattle.assembler.specs.Answers.{assembly_numbered, Assembles}
use Rattle.compile.specs.declared.Compiled.{Compiled}
use Rattle.compile.specs.declared.CompileError.{CompileError}
use Rattle.compile.specs.declared.CompileError.TheVariants.{NotAssembled, NotRead}
use Rattle.correctness.specs.Call.{Compilation, Left, assembly_of, reading_of, transition_on}
use Rattle.compile.specs.Answer.{ran}
use Rattle.compile.specs.Compile.{after_reading, after_assembly, compile_of, Composes}

abbrev buffers : (out kinds operands stack work storage : List ℕ) → Left
buffers out kinds operands stack work storage = record { out = out; kinds = kinds; operands = operands; stack = stack; work = work; storage = storage }

module _ (x : Compilation) where
  -- a success of assembly, which leaves o in its buffer
  pub record Written (o : List ℕ) (y : Assembly) : Type 0 where
    pub answer : assembly_numbered y ≡ (assembly_of x).answer
    pub buffer : o ≡ overwrite 0 (assembly_of x).text x.out
    pub text : take y.written o ≡ (assembly_of x).text

  -- a reading y that answers r and leaves ks and vs in its buffers
  record Reads (y : Reading) (r : Result ℕ OpsError) (ks vs : List ℕ) : Type 0 where
    pub answer : r ≡ answer_of y
    pub kinds : ks ≡ overwrite 0 (kinds_of (ops_of y)) x.run.kinds
    pub operands : vs ≡ overwrite 0 (operands_of (ops_of y)) x.run.operands

  module _ {o : List ℕ} where
    pub is_written : {r : Result Assembly AssembleError} {y : Assembly} → Assembles (assembly_of x) x.out o r → r ≡ Ok y → Written o y
    is_written {r} {y} b e =
        let a = subst (λ (z : Result Assembly AssembleError). Assembles (assembly_of x) x.out o z) e b in
        let text = (assembly_of x).text in
        record {
          answer = a.answer;
          buffer = a.buffer;
          text = ap (take y.written) a.buffer ∙ take_at text (drop (length text) x.out) y.written (tells x.contract x.vector x.stem (length x.out) (sym a.answer)).size;
        }

    pub not-assembled : {r : Result Assembly AssembleError} {why : AssembleError} → Assembles (assembly_of x) x.out o r → r ≡ Err why
        → Composes (compile_of x) (Err (NotAssembled why)) (buffers o x.run.kinds x.run.operands x.run.stack x.run.work x.run.storage)
    unfolding compile_of
    not-assembled {r} {why} b e =
        let a = subst (λ (z : Result Assembly AssembleError). Assembles (assembly_of x) x.out o z) e b in
        let zero = never_0 why in
        let text = no_text x.contract x.vector x.stem (length x.out) (ap (λ (z : Numbered). eqb z.number 0) (sym a.answer) ∙ zero) in
        let kept : o ≡ x.out = a.buffer ∙ ap (λ (l : List ℕ). overwrite 0 l x.out) text in
        subst (λ (z : Numbered). Composes (after_assembly x z) (Err (NotAssembled why)) (buffers o x.run.kinds x.run.operands x.run.stack x.run.work x.run.storage)) a.answer
        (rw zero (record { answer = refl; number = refl; out = kept; kinds = refl; operands = refl; stack = refl; work = refl; storage = refl }))

    module _ {z : Assembly} (a : Written o z) where
      -- what follows the success
      follows : {r : Result Compiled CompileError} {ks vs s w m : List ℕ} → Composes (after_reading x (assembly_numbered z) (reading_of x)) r (buffers o ks vs s w m) → Composes (compile_of x) r (buffers o ks vs s w m)
      unfolding compile_of
      follows {r} {ks} {vs} {s} {w} {m} c = subst (λ (q : Numbered). Composes (after_assembly x q) r (buffers o ks vs s w m)) a.answer c

      module _ {ks vs : List ℕ} where
        reads : {q r : Result ℕ OpsError} → ReadsOps (take z.written o) x.run.kinds x.run.operands ks vs q → q ≡ r → Reads (reading_of x) r ks vs
        reads {q} b e =
            let u = subst (λ (l : List ℕ). ReadsOps l x.run.kinds x.run.operands ks vs q) a.text b in
            record { answer = sym e ∙ u.answer; kinds = u.kinds_written; operands = u.operands_written }

        stopped : {e : OpsError} (y : Reading) → Reads y (Err e) ks vs → Composes (after_reading x (assembly_numbered z) y) (Err (NotRead e)) (buffers o ks vs x.run.stack x.run.work x.run.storage)
        stopped (is os) r = absurd (let q : ◌≡◌ {A = ℕ} 0 1 = cc r.answer in omega arith)
        stopped (refused e) r = record { answer = cc r.answer; number = cc r.answer; out = a.buffer; kinds = r.kinds; operands = r.operands; stack = refl; work = refl; storage = refl }

        finished : {s w m : List ℕ} {j : ℕ} {t : Result Success VmError} (y : Reading) → Reads y (Ok j) ks vs → Meets (transition_on x ks vs) x.run.state t s w m → Composes (after_reading x (assembly_numbered z) y) (Ok (record { assembly = z; operations = j; answer = t })) (buffers o ks vs s w m)
        finished (refused e) r q = absurd (let q : ◌≡◌ {A = ℕ} 0 1 = cc r.answer in omega arith)
        finished {s} {w} {m} {j} {t} (is os) r q =
            let u = subst (λ (l : List ℕ). Meets (transition_on x l (overwrite 0 (operands_of os) x.run.operands)) x.run.state t s w m) r.kinds (subst (λ (l : List ℕ). Meets (transition_on x ks l) x.run.state t s w m) r.operands q) in
            let j-is : j ≡ length os = cc r.answer in
            record {
              answer = ap (λ (i : ℕ). ran (assembly_numbered z) i t) j-is ∙ ap (ran (assembly_numbered z) (length os)) u.answer;
              number = u.says;
              out = a.buffer;
              kinds = r.kinds;
              operands = r.operands;
              stack = u.stack;
              work = u.work;
              storage = u.storage;
            }

        pub not_read_lem : {r : Result ℕ OpsError} {e : OpsError} → ReadsOps (take z.written o) x.run.kinds x.run.operands ks vs r → r ≡ Err e
            → Composes (compile_of x) (Err (NotRead e)) (buffers o ks vs x.run.stack x.run.work x.run.storage)
        not_read_lem q e = follows (stopped (reading_of x) (reads q e))

        pub has_run : {r : Result ℕ OpsError} {j : ℕ} {t : Result Success VmError} {s w m : List ℕ} → ReadsOps (take z.written o) x.run.kinds x.run.operands ks vs r → r ≡ Ok j → Meets (transition_on x ks vs) x.run.state t s w m
            → Composes (compile_of x) (Ok (record { assembly = z; operations = j; answer = t })) (buffers o ks vs s w m)
        has_run q e t = follows (finished (reading_of x) (reads q e) t)
