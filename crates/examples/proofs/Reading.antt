-- The operations that were read stand at the front of both buffers.
use Rattle.std.specs.Prelude.{Result}
use Rattle.checks.specs.declared.VmError.{VmError}
use Rattle.operation.specs.declared.OpsError.{OpsError}
use Rattle.perform.specs.declared.Success.{Success}
use Prim.Native.Nat.{ℕ, min}
use mathlib.Core.Path.{◌≡◌, refl, ap, subst, ◌∙◌}
use mathlib.Core.List.{List}
use lib.ListN.{length, take}
use Rattle.base.specs.Outcome.{is, refused}
use Rattle.ops.specs.Ops.{Reading, read_text, answer_of, ops_of, kinds_of, ReadsOps}
use Rattle.ops.proofs.Front.{Front, front as read}
use Rattle.perform.specs.Run.{Meets}
use Rattle.vm.specs.Transition.{metered_of}
use Rattle.std.specs.Result.{result_unwrap_or}
use Rattle.examples.specs.Runs.{operations, call, ran, zeros, plainly, four, on_four, Ends, Stores, nines, Fills}

pub counted : (r : Reading) → result_unwrap_or (answer_of r) 0 ≡ length (ops_of r)
counted (is os) = refl
counted (refused e) = refl

-- where reading had room for 4,096
pub front : (text ks vs ks' vs' : List ℕ) (r : Result ℕ OpsError) (n : ℕ) → min (length ks) (length vs) ≡ 4096 → ReadsOps text ks vs ks' vs' r → n ≡ result_unwrap_or r 0 → Front (operations text) n ks' vs'
front text ks vs ks' vs' r n m p e =
    let room = min (length ks) (length vs) in
    let count : n ≡ length (ops_of (read_text text room)) = e ∙ ap (λ (a : Result ℕ OpsError). result_unwrap_or a 0) p.answer ∙ counted (read_text text room) in
    subst (λ (k : ℕ). Front (ops_of (read_text text k)) n ks' vs') m (read text ks vs ks' vs' r n p count)

pub runs : (text : List ℕ) (n g : ℕ) (ks vs s w m s' w' m' : List ℕ) (a : Result Success VmError) → Front (operations text) n ks vs
    → Meets (metered_of (call (take n ks) (take n vs) g s w m)) (record { used = 0 }) a s' w' m' → Meets (ran text g s w m) (record { used = 0 }) a s' w' m'
unfolding ran
runs text n g ks vs s w m s' w' m' a f h =
    subst (λ (l : List ℕ). Meets (metered_of (call (kinds_of (operations text)) l g s w m)) (record { used = 0 }) a s' w' m') f.operands
    (subst (λ (l : List ℕ). Meets (metered_of (call l (take n vs) g s w m)) (record { used = 0 }) a s' w' m') f.kinds h)

-- runs on buffers that are known
pub ends : (text : List ℕ) (g : ℕ) (s s' w' m' : List ℕ) (a : Result Success VmError) → s ≡ zeros → Meets (ran text g s zeros zeros) (record { used = 0 }) a s' w' m' → Ends (plainly text g) a s'
ends text g s s' w' m' a e h =
    record {
      answer = h.answer ∙ ap (λ (l : List ℕ). (ran text g l zeros zeros).answer) e;
      stack = h.stack ∙ ap (λ (l : List ℕ). (ran text g l zeros zeros).stack) e;
    }

pub stores : (text : List ℕ) (m s' w' m' : List ℕ) (a : Result Success VmError) → m ≡ four → Meets (ran text 1000 zeros four m) (record { used = 0 }) a s' w' m' → Stores (on_four text) a m'
stores text m s' w' m' a e h =
    record {
      answer = h.answer ∙ ap (λ (l : List ℕ). (ran text 1000 zeros four l).answer) e;
      storage = h.storage ∙ ap (λ (l : List ℕ). (ran text 1000 zeros four l).storage) e;
    }

pub fills : (text ks vs ks' vs' : List ℕ) (r : Result ℕ OpsError) → ks ≡ nines → vs ≡ zeros → ReadsOps text ks vs ks' vs' r → Fills text r ks' vs'
fills text ks vs ks' vs' r d e h =
    let p : ReadsOps text nines zeros ks' vs' r = subst (λ (o : List ℕ). ReadsOps text nines o ks' vs' r) e (subst (λ (o : List ℕ). ReadsOps text o vs ks' vs' r) d h) in
    record { answer = p.answer; kinds = p.kinds_written; operands = p.operands_written }
