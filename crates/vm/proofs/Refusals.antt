-- Which numbers the tests give, and which a run.
use Rattle.std.specs.Prelude.{Result, Ok, Err}
use Rattle.context.specs.declared.ContextError.{ContextError}
use Prim.Native.Nat.{ℕ, ◌≤◌, ◌<◌}
use native.Mathlib.Omega.{arith}
use mathlib.Core.Path.{◌≡◌, ap}
use mathlib.Core.Bool.{Bool, true, false}
use mathlib.Core.List.{List, [], ◌∷◌}
use lib.ListN.{length}
use lib.Dec.{ltb, leb, eqb}
use Rattle.base.specs.Need.{need}
use Rattle.kinds.specs.Kinds.{operation}
use Rattle.context.specs.declared.ContextError.TheVariants.{InvalidChainId, InvalidNetworkId, InvalidGenesisId, ProtocolMismatch, VmMismatch, GenesisMismatch}
use Rattle.machine.specs.Machine.{Fault, out_of_gas, stack_underflow, stack_limit_exceeded, division_by_zero, storage_limit_exceeded, outside_storage}
use Rattle.machine.proofs.Faults.{Short}
use Rattle.checks.specs.declared.VmError.{VmError}
use Rattle.checks.specs.declared.VmError.TheVariants.{BufferLengths, EmptyProgram, ProgramTooLarge, StorageTooLarge, UnknownKind, JumpOutOfRange, OutOfGas, StackUnderflow, StackLimitExceeded, DivisionByZero, StorageLimitExceeded, OutsideStorage}
use Rattle.checks.specs.Verify.{then_check, buffers_fit, gate_check, target_fits, operation_check, operations_check, verify_of}
use Rattle.perform.specs.Call.{Call}
use Rattle.perform.specs.Run.{refusal_of}
use Rattle.vm.specs.Transition.{lengths_check, checks_of}
use Rattle.vm.specs.Refusals.{refusal_number}

-- a test refuses with 34 to 45
abbrev pub Tested : Result (Unit {0}) VmError → Type 0
Tested (Ok tt) = Unit {0}
Tested (Err f) = (34 ≤ refusal_number f) × (refusal_number f ≤ 45)

need_tested : (b : Bool) (f : VmError) (c : Result (Unit {0}) VmError) → Tested (Err f) → Tested c → Tested (need b (Err f) c)
need_tested true f c p q = q
need_tested false f c p q = p

then_tested : (c d : Result (Unit {0}) VmError) → Tested c → Tested d → Tested (then_check c d)
then_tested (Ok tt) d p q = q
then_tested (Err f) d p q = p

pub gate_tested : (g : Result (Unit {0}) ContextError) → Tested (gate_check g)
gate_tested (Ok tt) = tt
gate_tested (Err InvalidChainId) = omega arith
gate_tested (Err InvalidNetworkId) = omega arith
gate_tested (Err InvalidGenesisId) = omega arith
gate_tested (Err ProtocolMismatch) = omega arith
gate_tested (Err VmMismatch) = omega arith
gate_tested (Err GenesisMismatch) = omega arith

operations_tested : (n : ℕ) (ks vs : List ℕ) → Tested (operations_check n ks vs)
unfolding operations_check
operations_tested n [] vs = tt
operations_tested n (k ∷ ks) [] = tt
operations_tested n (k ∷ ks) (v ∷ vs) =
    then_tested (operation_check n (operation k v)) (operations_check n ks vs)
    (need_tested (leb k 15) UnknownKind _ (omega arith) (need_tested (target_fits n (operation k v)) JumpOutOfRange (Ok tt) (omega arith) tt))
    (operations_tested n ks vs)

verify_tested : (ks vs : List ℕ) (used : ℕ) → Tested (verify_of ks vs used)
verify_tested ks vs used =
    need_tested (eqb (length ks) (length vs)) BufferLengths _ (omega arith)
    (need_tested (ltb 0 (length ks)) EmptyProgram _ (omega arith)
    (need_tested (leb (length ks) 65536) (ProgramTooLarge (length ks)) _ (omega arith)
    (need_tested (leb used 65536) (StorageTooLarge used) _ (omega arith)
    (operations_tested (length ks) ks vs))))

pub checks_tested : (before behind : Result (Unit {0}) VmError) (x : Call) → Tested before → Tested behind → Tested (checks_of before behind x)
checks_tested before behind x p q =
    then_tested (lengths_check x) _
    (need_tested (buffers_fit (length x.kinds) (length x.operands) (length x.stack) (length x.work) (length x.storage) x.state.used) BufferLengths (Ok tt) (omega arith) tt)
    (then_tested before _ p (then_tested (verify_of x.kinds x.operands x.state.used) behind (verify_tested x.kinds x.operands x.state.used) q))

-- a run refuses with 46 to 51
pub record FromRun (f : VmError) : Type 0 where
  pub least : 46 ≤ refusal_number f
  pub most : refusal_number f ≤ 51

pub from_run : (f : Fault) → FromRun (refusal_of f)
from_run (out_of_gas price left) = record { least = omega arith; most = omega arith }
from_run stack_underflow = record { least = omega arith; most = omega arith }
from_run stack_limit_exceeded = record { least = omega arith; most = omega arith }
from_run division_by_zero = record { least = omega arith; most = omega arith }
from_run (storage_limit_exceeded slots) = record { least = omega arith; most = omega arith }
from_run outside_storage = record { least = omega arith; most = omega arith }

other : (f : VmError) (g price left : ℕ) → 47 ≤ refusal_number f → f ≡ OutOfGas price left → (left < price) × (left ≤ g)
other f g price left h e = absurd (let n : refusal_number f ≡ 46 = ap refusal_number e in omega arith)

pub short_of : (g : ℕ) (f : Fault) → Short g f → (price left : ℕ) → refusal_of f ≡ OutOfGas price left → (left < price) × (left ≤ g)
short_of g (out_of_gas p l) h price left e = let i : p ≡ price = cc in let j : l ≡ left = cc in (omega (arith, h.0), omega (arith, h.1))
short_of g stack_underflow h price left e = other StackUnderflow g price left (omega arith) e
short_of g stack_limit_exceeded h price left e = other StackLimitExceeded g price left (omega arith) e
short_of g division_by_zero h price left e = other DivisionByZero g price left (omega arith) e
short_of g (storage_limit_exceeded slots) h price left e = other (StorageLimitExceeded slots) g price left (omega arith) e
short_of g outside_storage h price left e = other OutsideStorage g price left (omega arith) e
