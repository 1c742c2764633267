-- An operation's effect as its function leaves it in the registers and the buffers.
use Rattle.std.proofs.Common.{◌≡◌, ℕ, ◌+◌, ◌≤◌, List, length, take, arith}
use Rattle.machine.specs.declared.Regs.{Regs}
use Rattle.machine.specs.declared.Refusal.{Refusal}
use Rattle.machine.specs.Machine.{Effect, moves, jumps, fails}
use Rattle.base.specs.Code.Stack.{stack_of}
use Rattle.machine.specs.Code.Registers.{fault_of, gone_on, stopped, RefinesEffect}

module _ {lo : ℕ} {effect : List ℕ → List ℕ → Effect} {r q : Regs} {s w : List ℕ} where
  pub fails_by : (why : Refusal) → q ≡ stopped r why → lo ≤ r.pos + 1 → r.items ≤ 4096 → r.used ≤ length w
      → effect (stack_of s r.items) (take r.used w) ≡ fails (fault_of why) → RefinesEffect lo effect r q s w s w
  fails_by why e pos items used f = rw e (record { progress = rw f; kept = omega arith })

  module _ {s' w' : List ℕ} where
    pub moves_by : (items used : ℕ) → q ≡ gone_on r (r.pos + 1) items used → lo ≤ r.pos + 1 → items ≤ 4096 → used ≤ length w
        → effect (stack_of s r.items) (take r.used w) ≡ moves (stack_of s' items) (take used w') → RefinesEffect lo effect r q s w s' w'
    moves_by items used e pos i u f = rw e (record { progress = rw f; kept = omega arith })

    pub jumps_by : (t items used : ℕ) → q ≡ gone_on r t items used → lo ≤ t → items ≤ 4096 → used ≤ length w
        → effect (stack_of s r.items) (take r.used w) ≡ jumps t (stack_of s' items) (take used w') → RefinesEffect lo effect r q s w s' w'
    jumps_by t items used e pos i u f = rw e (record { progress = rw f; kept = omega arith })
