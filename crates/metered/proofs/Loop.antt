-- The turns of the loop against the definition of a run.
use Prim.Native.Nat.{ℕ, zero, suc, ◌≤◌, ◌<◌}
use native.Mathlib.Omega.{arith}
use mathlib.Core.Path.{◌≡◌, refl, sym, ap, ◌∙◌}
use mathlib.Core.List.{List}
use lib.ListN.{length, get_or}
use borrow.Author.Tests.{lt-ltb, le-ltb}
use Rattle.kinds.specs.Kinds.{operation}
use Rattle.machine.specs.Machine.{decode, Frame, Act, over, Progress, next, pay, act_of, machine, run_of}
use Rattle.machine.specs.declared.Regs.{Regs}
use Rattle.machine.specs.declared.Status.{Status}
use Rattle.machine.specs.declared.Status.TheVariants.{Going, Ended, Refused}
use Rattle.machine.specs.Code.Registers.{frame_of, by_status, over_of, progress_of, RefinesStep}
use Rattle.machine.proofs.Program.{decode-length, decode_at}

module _ (ks vs : List ℕ) (c room : ℕ) (fr : Frame) (same : length ks ≡ length vs) where
  pub act_at : fr.pos < length ks → machine (decode ks vs) c room fr ≡ act_of c room (operation (get_or ks fr.pos 0) (get_or vs fr.pos 0)) fr
  act_at h = rw (decode-length ks vs same, lt-ltb fr.pos (length ks) h, decode_at ks vs fr.pos same h)

  pub act_over : length ks ≤ fr.pos → machine (decode ks vs) c room fr ≡ over
  act_over h = rw (decode-length ks vs same, le-ltb fr.pos (length ks) h)

-- what every run that is long enough comes to
abbrev pub ComesTo : (Frame → Act) → ℕ → Frame → Progress → Type 0
ComesTo act g fr o = (n : ℕ) → g < n → run_of act n g fr ≡ o

-- a run comes to what it comes to from a later frame
abbrev pub Leads : (Frame → Act) → ℕ → Frame → ℕ → Frame → Type 0
Leads act g fr g' fr' = (o : Progress) → ComesTo act g' fr' o → ComesTo act g fr o

pub goes_on_lem : (act : Frame → Act) (g g' : ℕ) (fr fr' : Frame) → pay g fr (act fr) ≡ next g' fr' → g' < g → Leads act g fr g' fr'
unfolding run_of
goes_on_lem act g g' fr fr' e l o k zero h = absurd (omega arith)
goes_on_lem act g g' fr fr' e l o k (suc n) h = rw e (k n (omega arith))

pub is_over : (status : Status) → (status ≡ Going → ⊥) → 1 ≤ over_of status
is_over Going ne = absurd (ne refl)
is_over Ended ne = omega arith
is_over (Refused why) ne = omega arith

-- a status that does not go on ends the run
pub ends_with : (act : Frame → Act) (g : ℕ) (status : Status) (g' : ℕ) (fr fr' : Frame) → pay g fr (act fr) ≡ by_status status g' fr' → 1 ≤ over_of status
    → ComesTo act g fr (by_status status g' fr')
unfolding run_of
ends_with act g status g' fr fr' e l zero h = absurd (omega arith)
ends_with act g Going g' fr fr' e l (suc n) h = absurd (omega arith)
ends_with act g Ended g' fr fr' e l (suc n) h = rw e
ends_with act g (Refused why) g' fr fr' e l (suc n) h = rw e

-- one step of the code is one step of the machine
pub turn : (ks vs : List ℕ) (c room : ℕ) (r q : Regs) (s w s' w' : List ℕ) → length ks ≡ length vs → r.pos < length ks → length w ≡ room
    → RefinesStep c (operation (get_or ks r.pos 0) (get_or vs r.pos 0)) r q s w s' w'
    → pay r.gas (frame_of s w r) (machine (decode ks vs) c room (frame_of s w r)) ≡ progress_of s' w' q
turn ks vs c room r q s w s' w' same h e d =
    ap (pay r.gas (frame_of s w r)) (act_at ks vs c room (frame_of s w r) same h) ∙ (rw (← e) (sym d.progress))
