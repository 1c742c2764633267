-- The machine's state as the code holds it: registers, the stack buffer and the work buffer.
use Rattle.std.specs.Prelude.{◌≡◌, ℕ, ◌+◌, ◌-◌, ◌^◌, ◌<◌, ◌≤◌, max, List, length, take}
use Rattle.base.specs.Code.Stack.{stack_of}
use Rattle.machine.specs.declared.Regs.{Regs}
use Rattle.machine.specs.declared.Refusal.{Refusal}
use Rattle.machine.specs.declared.Refusal.TheVariants.{OutOfGas, StackUnderflow, StackLimitExceeded, DivisionByZero, StorageLimitExceeded, OutsideStorage}
use Rattle.machine.specs.declared.Status.{Status}
use Rattle.machine.specs.declared.Status.TheVariants.{Going, Ended, Refused}
use Rattle.kinds.specs.Kinds.{Operation}
use Rattle.machine.specs.Machine.{Fault, out_of_gas, stack_underflow, stack_limit_exceeded, division_by_zero, storage_limit_exceeded, outside_storage, Frame, Effect, Progress, next, done, stop, settle, pay, act_of, machine, run_of}

-- the frame in the registers, the stack buffer s and the work buffer w
abbrev pub frame_of : List ℕ → List ℕ → Regs → Frame
frame_of s w r = record { pos = r.pos; stack = stack_of s r.items; storage = take r.used w; ops = r.ops }

abbrev pub fault_of : Refusal → Fault
fault_of (OutOfGas price left) = out_of_gas price left
fault_of StackUnderflow = stack_underflow
fault_of StackLimitExceeded = stack_limit_exceeded
fault_of DivisionByZero = division_by_zero
fault_of (StorageLimitExceeded slots) = storage_limit_exceeded slots
fault_of OutsideStorage = outside_storage

abbrev pub by_status : Status → ℕ → Frame → Progress
by_status Going g fr = next g fr
by_status Ended g fr = done g fr
by_status (Refused why) g fr = stop (fault_of why)

abbrev pub progress_of : List ℕ → List ℕ → Regs → Progress
progress_of s w r = by_status r.status r.gas (frame_of s w r)

-- 1 where the run is over
abbrev pub over_of : Status → ℕ
over_of Going = 0
over_of Ended = 1
over_of (Refused why) = 1

-- registers that go on to a place, that end well, and that end with a refusal
abbrev pub gone_on : Regs → ℕ → ℕ → ℕ → Regs
gone_on r pos items used = record { pos = pos; gas = r.gas; items = items; used = used; ops = r.ops + 1; status = Going }

abbrev pub ended : Regs → ℕ → Regs
ended r ops = record { pos = r.pos; gas = r.gas; items = r.items; used = r.used; ops = ops; status = Ended }

abbrev pub stopped : Regs → Refusal → Regs
stopped r why = record { pos = r.pos; gas = r.gas; items = r.items; used = r.used; ops = r.ops; status = Refused why }

abbrev pub paid : Regs → ℕ → Regs
paid r p = record { pos = r.pos; gas = r.gas - p; items = r.items; used = r.used; ops = r.ops; status = r.status }

-- bounds that every operation keeps. A jump costs 2, so the operations counted stay below the position or the gas spent,
-- and the count fits a word under every limit
pub record Bounds (room : ℕ) (r : Regs) : Type 0 where
  pub items : r.items ≤ 4096
  pub used : r.used ≤ room
  pub spent : r.ops + r.gas < 2 ^ 64 + over_of r.status
  pub count : r.ops < max (r.pos + 1) (2 ^ 64 - 1 - r.gas) + over_of r.status

-- what an operation asks of the registers and of the stack buffer's length
pub record CanStep (r : Regs) (n : ℕ) : Type 0 where
  pub room : 4096 ≤ n
  pub items : r.items ≤ 4096
  pub pos : r.pos < 2 ^ 63
  pub ops : r.ops + 1 < 2 ^ 64

-- what an operation that is paid for leaves of r's bounds; where it goes on, its position is lo or more
pub record KeepsBounds (lo room : ℕ) (r q : Regs) : Type 0 where
  pub items : q.items ≤ 4096
  pub used : q.used ≤ room
  pub gas : q.gas ≡ r.gas
  pub counted : r.ops + 1 ≤ q.ops + over_of q.status
  pub once : q.ops ≤ r.ops + 1
  pub pos : lo ≤ q.pos + over_of q.status

-- an operation's effect on the buffers s and w, which it leaves as s' and w'.
-- Free are the stack buffer above the items and the work buffer past the used slots.
-- After a refusal both buffers are free; items, used, position and count are so within `KeepsBounds`
pub record RefinesEffect (lo : ℕ) (effect : List ℕ → List ℕ → Effect) (r q : Regs) (s w s' w' : List ℕ) : Type 0 where
  pub progress : progress_of s' w' q ≡ settle r.gas (frame_of s w r) (effect (stack_of s r.items) (take r.used w))
  pub kept : KeepsBounds lo (length w) r q

-- the same where the work buffer is neither read nor written
abbrev pub RefinesOnStack : ℕ → (List ℕ → List ℕ → Effect) → Regs → Regs → List ℕ → List ℕ → Type 0
RefinesOnStack lo effect r q s s' = (w : List ℕ) → r.used ≤ length w → RefinesEffect lo effect r q s w s' w

-- registers that run, and the lengths of the buffers
pub record Running (r : Regs) (stack work : ℕ) : Type 0 where
  pub held : Bounds work r
  pub status : over_of r.status ≡ 0
  pub room : 4096 ≤ stack

-- one operation, paid for and done; what `RefinesEffect` leaves free is free here, within `Bounds`
pub record RefinesStep (c : ℕ) (op : Operation) (r q : Regs) (s w s' w' : List ℕ) : Type 0 where
  pub progress : progress_of s' w' q ≡ pay r.gas (frame_of s w r) (act_of c (length w) op (frame_of s w r))
  pub held : Bounds (length w) q
  pub gas : q.gas ≤ r.gas
  pub falls : q.gas + 1 ≤ r.gas + over_of q.status

-- a run to its end: with more operations than gas it is the machine's; what `RefinesEffect` leaves free is free here, within `Bounds`
pub record RefinesRun (program : List Operation) (c : ℕ) (r q : Regs) (s w s' w' : List ℕ) : Type 0 where
  pub progress : (n : ℕ) → r.gas < n → progress_of s' w' q ≡ run_of (machine program c (length w)) n r.gas (frame_of s w r)
  pub held : Bounds (length w) q
  pub over : 1 ≤ over_of q.status
  pub gas : q.gas ≤ r.gas
