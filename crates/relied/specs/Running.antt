-- What callers of the verifier and the runs rely on.
use Rattle.std.specs.Prelude.{Result, Ok}
use Rattle.context.specs.declared.ContextError.{ContextError}
use Rattle.std.specs.Prelude.{ℕ, ◌<◌, ◌≤◌, ◌≡◌, List, [], ◌∷◌, length, get_or, take}
use Rattle.kinds.specs.Kinds.{Operation}
use Rattle.machine.specs.Machine.{decode}
use Rattle.mnemonic.specs.Written.{Each}
use Rattle.checks.specs.Numbers.{check_numbered}
use Rattle.checks.specs.Verify.{gate_check, verify_of}
use Rattle.perform.specs.declared.Success.{Success}
use Rattle.perform.specs.Call.{Call}
use Rattle.perform.specs.Lent.{Lent}
use Rattle.perform.specs.Numbers.{run_answer_numbered}
use Rattle.perform.specs.Run.{RunResult}
use Rattle.vm.specs.Transition.{checks_of, metered_of, transition_of}
use Rattle.relied.specs.Numbers.{Among}

-- document 01's number of what each call answers
abbrev pub verify_number : (ks vs : List ℕ) → ℕ → ℕ
verify_number ks vs used = (check_numbered (verify_of ks vs used)).number

abbrev pub metered_number : Call → ℕ
metered_number x = (run_answer_numbered (metered_of x).answer).number

abbrev pub transition_number : Result (Unit {0}) ContextError → Call → ℕ
transition_number gate x = (run_answer_numbered (transition_of gate x).answer).number

-- every kind is one of the sixteen, as `Op::encode` gives them
abbrev pub KnownKinds : List ℕ → Type 0
KnownKinds ks = Each (λ k. k ≤ 15) ks

-- a slot that a Store, kind 12, names lies within a storage of `room` slots, or is 65,536 or more
abbrev pub StoresWithin : ℕ → Operation → Type 0
StoresWithin room o = o.kind ≡ 12 → o.operand < 65536 → o.operand < room

-- any program and any used length
pub record VerifyRelied (ks vs : List ℕ) (used : ℕ) : Type 0 where
  -- the header: "Gives 0, 34 (for kinds and operands), 41 to 45"
  pub gives : Among (0 ∷ 34 ∷ 41 ∷ 42 ∷ 43 ∷ 44 ∷ 45 ∷ []) (verify_number ks vs used)
  -- the `unreachable!` of `VmError::of` under `Vm::verify`: no 34, no 44
  pub known : length ks ≡ length vs → KnownKinds ks → Among (0 ∷ 41 ∷ 42 ∷ 43 ∷ 45 ∷ []) (verify_number ks vs used)

-- what `Vm::perform` hands over: buffers that fit, known kinds, and storage up to the highest slot below 65,536 that a Store names
pub record Handed (x : Call) : Type 0 where
  pub lent : Lent x
  pub known : KnownKinds x.kinds
  pub stores : Each (StoresWithin (length x.storage)) (decode x.kinds x.operands)

-- any call
pub record RunRelied (x : Call) : Type 0 where
  -- the header, of atc_run_with_gas: "Gives 0, 34, 41 to 51"
  pub metered : Among (0 ∷ 34 ∷ 41 ∷ 42 ∷ 43 ∷ 44 ∷ 45 ∷ 46 ∷ 47 ∷ 48 ∷ 49 ∷ 50 ∷ 51 ∷ []) (metered_number x)
  -- the header, of atc_execute_state_transition_with_gas: "Gives 0, 34 to 51"
  pub transition : (gate : Result (Unit {0}) ContextError)
      → Among (0 ∷ 34 ∷ 35 ∷ 36 ∷ 37 ∷ 38 ∷ 39 ∷ 40 ∷ 41 ∷ 42 ∷ 43 ∷ 44 ∷ 45 ∷ 46 ∷ 47 ∷ 48 ∷ 49 ∷ 50 ∷ 51 ∷ []) (transition_number gate x)
  -- the header, of atc_execute_state_transition, whose limit is 0: "Gives 0, 34 to 46"
  pub unmetered : (gate : Result (Unit {0}) ContextError) → x.limit ≡ 0
      → Among (0 ∷ 34 ∷ 35 ∷ 36 ∷ 37 ∷ 38 ∷ 39 ∷ 40 ∷ 41 ∷ 42 ∷ 43 ∷ 44 ∷ 45 ∷ 46 ∷ []) (transition_number gate x)
  -- the header, of the same: "only a program that starts with Halt succeeds; another that verifies is 46"
  pub halts : (gate : Result (Unit {0}) ContextError) → x.limit ≡ 0 → checks_of (gate_check gate) (Ok tt) x ≡ Ok tt
      → get_or x.kinds 0 0 ≡ 15 → transition_number gate x ≡ 0
  pub others : (gate : Result (Unit {0}) ContextError) → x.limit ≡ 0 → checks_of (gate_check gate) (Ok tt) x ≡ Ok tt
      → (get_or x.kinds 0 0 ≡ 15 → ⊥) → transition_number gate x ≡ 46
  -- the header, of ATC_MAX_STORAGE_SLOTS: "with this much work and storage a run never gives 51"
  pub metered_roomy : 65536 ≤ length x.storage
      → Among (0 ∷ 34 ∷ 41 ∷ 42 ∷ 43 ∷ 44 ∷ 45 ∷ 46 ∷ 47 ∷ 48 ∷ 49 ∷ 50 ∷ []) (metered_number x)
  pub transition_roomy : 65536 ≤ length x.storage → (gate : Result (Unit {0}) ContextError)
      → Among (0 ∷ 34 ∷ 35 ∷ 36 ∷ 37 ∷ 38 ∷ 39 ∷ 40 ∷ 41 ∷ 42 ∷ 43 ∷ 44 ∷ 45 ∷ 46 ∷ 47 ∷ 48 ∷ 49 ∷ 50 ∷ []) (transition_number gate x)
  -- the `unreachable!` of `VmError::of` under `Vm::perform`: no 34, no 44, no 51
  pub metered_handed : Handed x → Among (0 ∷ 41 ∷ 42 ∷ 43 ∷ 45 ∷ 46 ∷ 47 ∷ 48 ∷ 49 ∷ 50 ∷ []) (metered_number x)
  pub transition_handed : Handed x → (gate : Result (Unit {0}) ContextError)
      → Among (0 ∷ 35 ∷ 36 ∷ 37 ∷ 38 ∷ 39 ∷ 40 ∷ 41 ∷ 42 ∷ 43 ∷ 45 ∷ 46 ∷ 47 ∷ 48 ∷ 49 ∷ 50 ∷ []) (transition_number gate x)

-- the same of two calls
pub record SameRun (t u : RunResult) : Type 0 where
  pub answer : t.answer ≡ u.answer
  -- after a success stack, work and the used slots are the same, too
  pub success : (w : Success) → t.answer ≡ Ok w
      → (t.stack ≡ u.stack) × (t.work ≡ u.work) × (take w.state.used t.storage ≡ take w.state.used u.storage)
