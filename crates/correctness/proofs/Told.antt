-- Number and words tell the answer, and with it the used length.
use Rattle.std.specs.Prelude.{Result, Ok, Err}
use Rattle.context.specs.declared.ContextError.{ContextError}
use Rattle.operation.specs.declared.OpsError.{OpsError}
use Prim.Native.Nat.{ℕ}
use native.Mathlib.Omega.{arith}
use mathlib.Core.Path.{◌≡◌, refl, sym, ap, ◌∙◌}
use mathlib.Core.List.{[], ◌∷◌}
use mathlib.Core.Bool.{cond}
use lib.Dec.{eqb}
use lib.ListN.{length, get_or, take}
use Rattle.numbered.specs.declared.Numbered.{Numbered}
use Rattle.context.specs.declared.ContextError.TheVariants as context
use Rattle.machine.specs.Machine.{Progress, next, done, stop, decode, run_to_end}
use Rattle.checks.specs.declared.VmError.{VmError}
use Rattle.checks.specs.declared.VmError.TheVariants as refusal
use Rattle.checks.specs.Verify.{gate_check}
use Rattle.operation.specs.declared.OpsError.TheVariants as error
use Rattle.ops.specs.Numbers.{parsed_ops_numbered}
use Rattle.perform.specs.Numbers.{run_answer_numbered}
use Rattle.perform.specs.declared.Success.{Success}
use Rattle.perform.specs.Call.{Call}
use Rattle.perform.specs.Run.{RunResult, refusal_of, of_run}
use Rattle.vm.specs.Transition.{after_check, checks_of, transition_of}
use Rattle.numbered.specs.Numbered.{carrying}
use Rattle.correctness.specs.Statement.{used_after}

-- the refusal of a number and its first two words
refusal_from : ℕ → ℕ → ℕ → VmError
refusal_from n a b =
    cond (eqb n 34) refusal.BufferLengths
    (cond (eqb n 35) (refusal.Context context.InvalidChainId)
    (cond (eqb n 36) (refusal.Context context.InvalidNetworkId)
    (cond (eqb n 37) (refusal.Context context.InvalidGenesisId)
    (cond (eqb n 38) (refusal.Context context.ProtocolMismatch)
    (cond (eqb n 39) (refusal.Context context.VmMismatch)
    (cond (eqb n 40) (refusal.Context context.GenesisMismatch)
    (cond (eqb n 41) refusal.EmptyProgram
    (cond (eqb n 42) (refusal.ProgramTooLarge a)
    (cond (eqb n 43) (refusal.StorageTooLarge a)
    (cond (eqb n 44) refusal.UnknownKind
    (cond (eqb n 45) refusal.JumpOutOfRange
    (cond (eqb n 46) (refusal.OutOfGas a b)
    (cond (eqb n 47) refusal.StackUnderflow
    (cond (eqb n 48) refusal.StackLimitExceeded
    (cond (eqb n 49) refusal.DivisionByZero
    (cond (eqb n 50) (refusal.StorageLimitExceeded a)
    refusal.OutsideStorage))))))))))))))))

answer_from : Numbered → Result Success VmError
answer_from x =
    cond (eqb x.number 0) (Ok (record { gas_spent = get_or x.words 0 0; operations = get_or x.words 1 0; items = get_or x.words 2 0; state = record { used = get_or x.words 3 0 } }))
    (Err (refusal_from x.number (get_or x.words 0 0) (get_or x.words 1 0)))

back : (a : Result Success VmError) → answer_from (run_answer_numbered a) ≡ a
unfolding answer_from refusal_from
back (Ok success) = refl
back (Err refusal.BufferLengths) = refl
back (Err (refusal.Context context.InvalidChainId)) = refl
back (Err (refusal.Context context.InvalidNetworkId)) = refl
back (Err (refusal.Context context.InvalidGenesisId)) = refl
back (Err (refusal.Context context.ProtocolMismatch)) = refl
back (Err (refusal.Context context.VmMismatch)) = refl
back (Err (refusal.Context context.GenesisMismatch)) = refl
back (Err refusal.EmptyProgram) = refl
back (Err (refusal.ProgramTooLarge size)) = refl
back (Err (refusal.StorageTooLarge used)) = refl
back (Err refusal.UnknownKind) = refl
back (Err refusal.JumpOutOfRange) = refl
back (Err (refusal.OutOfGas price left)) = refl
back (Err refusal.StackUnderflow) = refl
back (Err refusal.StackLimitExceeded) = refl
back (Err refusal.DivisionByZero) = refl
back (Err (refusal.StorageLimitExceeded slots)) = refl
back (Err refusal.OutsideStorage) = refl

pub told : {a b : Result Success VmError} → run_answer_numbered a ≡ run_answer_numbered b → a ≡ b
told {a} {b} e = sym (back a) ∙ ap answer_from e ∙ back b

pub read_told : (r : Result ℕ OpsError) (j : ℕ) → parsed_ops_numbered r ≡ carrying 0 (j ∷ []) → r ≡ Ok j
read_told r j e = go r (ap (λ (x : Numbered). x.number) e) (ap (λ (x : Numbered). get_or x.words 0 0) e)
  where
    go : (r : Result ℕ OpsError) → (parsed_ops_numbered r).number ≡ 0 → get_or (parsed_ops_numbered r).words 0 0 ≡ j → r ≡ Ok j
    go (Ok n) z w = ap Ok w
    go (Err error.NotUtf8) z w = absurd (omega arith)
    go (Err (error.BadPush line place len)) z w = absurd (omega arith)
    go (Err (error.BadSlot line place len)) z w = absurd (omega arith)
    go (Err (error.UnknownOp line place len)) z w = absurd (omega arith)
    go (Err (error.BadTarget line place len)) z w = absurd (omega arith)
    go (Err (error.Full line)) z w = absurd (omega arith)
    go (Err error.Empty) z w = absurd (omega arith)

-- the used length after a refusal, and after any transition
refused_used : (f : VmError) (used : ℕ) → used_after (run_answer_numbered (Err f)) used ≡ used
refused_used refusal.BufferLengths used = refl
refused_used (refusal.Context context.InvalidChainId) used = refl
refused_used (refusal.Context context.InvalidNetworkId) used = refl
refused_used (refusal.Context context.InvalidGenesisId) used = refl
refused_used (refusal.Context context.ProtocolMismatch) used = refl
refused_used (refusal.Context context.VmMismatch) used = refl
refused_used (refusal.Context context.GenesisMismatch) used = refl
refused_used refusal.EmptyProgram used = refl
refused_used (refusal.ProgramTooLarge size) used = refl
refused_used (refusal.StorageTooLarge slots) used = refl
refused_used refusal.UnknownKind used = refl
refused_used refusal.JumpOutOfRange used = refl
refused_used (refusal.OutOfGas price left) used = refl
refused_used refusal.StackUnderflow used = refl
refused_used refusal.StackLimitExceeded used = refl
refused_used refusal.DivisionByZero used = refl
refused_used (refusal.StorageLimitExceeded slots) used = refl
refused_used refusal.OutsideStorage used = refl

pub used_told : (context : Result (Unit {0}) ContextError) (x : Call) → (transition_of context x).state.used ≡ used_after (run_answer_numbered (transition_of context x).answer) x.state.used
used_told context x =
    go (checks_of (gate_check context) (Ok tt) x)
    (run_to_end (decode x.kinds x.operands) x.caller (length x.storage) x.limit (take x.state.used x.storage))
  where
    after : Result (Unit {0}) VmError → Progress → RunResult
    after z o = after_check z x (of_run x o)

    go : (z : Result (Unit {0}) VmError) (o : Progress) → (after z o).state.used ≡ used_after (run_answer_numbered (after z o).answer) x.state.used
    go (Err f) o = sym (refused_used f x.state.used)
    go (Ok tt) (next h fr) = refl
    go (Ok tt) (stop f) = sym (refused_used (refusal_of f) x.state.used)
    go (Ok tt) (done h fr) = refl
