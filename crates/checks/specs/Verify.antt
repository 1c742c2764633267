-- What is tested before a run: refusals 34 to 45 of document 01, in its order.
use Rattle.std.specs.Prelude.{Result, Ok, Err}
use Rattle.checks.specs.declared.VmError.{VmError}
use Rattle.context.specs.declared.ContextError.{ContextError}
use Rattle.std.specs.Prelude.{ℕ, List, [], ◌∷◌, Bool, true, cond, ◌&&◌, length, eqb, leb, ltb}
use Rattle.base.specs.Need.{need}
use Rattle.kinds.specs.Kinds.{target, takes, Operation, operation}
use Rattle.checks.specs.declared.VmError.TheVariants.{BufferLengths, Context, EmptyProgram, ProgramTooLarge, StorageTooLarge, UnknownKind, JumpOutOfRange}

-- a check, and then another
abbrev pub then_check : Result (Unit {0}) VmError → Result (Unit {0}) VmError → Result (Unit {0}) VmError
then_check (Ok tt) c = c
then_check (Err f) c = Err f

-- 34, of the lengths of kinds, operands, stack, work and storage and of the used length
abbrev pub buffers_fit : (kinds operands stack work storage used : ℕ) → Bool
buffers_fit kinds operands stack work storage used = (eqb kinds operands && leb 4096 stack) && (eqb work storage && leb used storage)

abbrev pub gate_check : Result (Unit {0}) ContextError → Result (Unit {0}) VmError
gate_check (Ok tt) = Ok tt
gate_check (Err e) = Err (Context e)

-- a jump's target is below the program's length n
abbrev pub target_fits : ℕ → Operation → Bool
target_fits n o = cond (takes target o.kind) (ltb o.operand n) true

abbrev pub operation_check : ℕ → Operation → Result (Unit {0}) VmError
operation_check n o = need (leb o.kind 15) (Err UnknownKind) (need (target_fits n o) (Err JumpOutOfRange) (Ok tt))

-- the first operation that is bad in either way decides
unfoldable pub operations_check : ℕ → List ℕ → List ℕ → Result (Unit {0}) VmError
operations_check n [] vs = Ok tt
operations_check n (k ∷ ks) [] = Ok tt
operations_check n (k ∷ ks) (v ∷ vs) = then_check (operation_check n (operation k v)) (operations_check n ks vs)

abbrev pub verify_of : (kinds operands : List ℕ) (used : ℕ) → Result (Unit {0}) VmError
verify_of ks vs used =
    need (eqb (length ks) (length vs)) (Err BufferLengths)
    (need (ltb 0 (length ks)) (Err EmptyProgram)
    (need (leb (length ks) 65536) (Err (ProgramTooLarge (length ks)))
    (need (leb used 65536) (Err (StorageTooLarge used))
    (operations_check (length ks) ks vs))))
