-- Straight-line code: its run is a fold of the machine's own step over its operations.
use Prim.Native.Nat.{ℕ, zero, suc, ◌+◌, ◌-◌, ◌≤◌, ◌<◌, min}
use native.Mathlib.Omega.{arith}
use native.Mathlib.Decide.{dec_lt}
use mathlib.Core.Path.{◌≡◌, refl, sym, ap, subst, ◌∙◌, fun_ext}
use mathlib.Core.List.{List, [], ◌∷◌, ◌++◌, append-nil}
use lib.ListN.{length, drop, length-drop}
use lib.Seq.{drop-cons}
use borrow.Author.Tests.{lt-ltb, le-ltb}
use Rattle.kinds.specs.Kinds.{Operation}
use Rattle.mnemonic.specs.Written.{Each, none, one}
use Rattle.machine.specs.Machine.{Frame, Effect, moves, jumps, ends, fails, costs, Progress, effect_of, price_of, halt, settle, pay, act_of, machine, follow, run_of, start, run_to_end}
use Rattle.machine.proofs.Runs.{PricedAct, priced}
use Rattle.correctness.specs.Counting.{op_at}

-- the fold of the machine's own step over a list of operations, and then f
unfoldable pub line : ℕ → ℕ → (ℕ → Frame → Progress) → List Operation → ℕ → Frame → Progress
line c room f [] g fr = f g fr
line c room f (x ∷ l) g fr = follow (pay g fr (act_of c room x fr)) (line c room f l)

pub line_append : (c room : ℕ) (f : ℕ → Frame → Progress) (a b : List Operation) (g : ℕ) (fr : Frame) → line c room f (a ++ b) g fr ≡ line c room (line c room f b) a g fr
unfolding line
line_append c room f [] b g fr = refl
line_append c room f (x ∷ a) b g fr = ap (follow (pay g fr (act_of c room x fr))) (fun_ext (λ g₁. fun_ext (λ fr₁. line_append c room f a b g₁ fr₁)))

-- operations that never jump
abbrev pub Goes : Effect → Type 0
Goes (moves s m) = Unit {0}
Goes (jumps t s m) = ⊥
Goes ends = Unit {0}
Goes (fails f) = Unit {0}

abbrev pub Plain : Operation → Type 0
Plain o = (c room : ℕ) (s m : List ℕ) → Goes (effect_of c room o s m)

-- one operation, and what follows it, in two ways that agree
module _ (g : ℕ) (fr : Frame) (f f' : ℕ → Frame → Progress) (same : (g₁ : ℕ) (fr₁ : Frame) → fr₁.pos ≡ suc fr.pos → g₁ < g → f g₁ fr₁ ≡ f' g₁ fr₁) where
  after : (q : ℕ) (e : Effect) → q ≤ g → PricedAct (costs q e) → Goes e → follow (settle (g - q) fr e) f ≡ follow (settle (g - q) fr e) f'
  after q (moves s m) h paid gs = same (g - q) (record { pos = fr.pos + 1; stack = s; storage = m; ops = fr.ops + 1 }) (omega arith) (omega arith)
  after q (jumps t s m) h paid gs = absurd gs
  after q ends h paid gs = refl
  after q (fails r) h paid gs = refl

  one_step : (q : ℕ) (e : Effect) → PricedAct (costs q e) → Goes e → Dec (g < q) → follow (pay g fr (costs q e)) f ≡ follow (pay g fr (costs q e)) f'
  one_step q e paid gs (yes h) = rw (lt-ltb g q h)
  one_step q e paid gs (no h) = let k : q ≤ g = omega arith in rw (le-ltb g q k) (after q e k paid gs)

-- such operations anywhere in any program; n is enough for all of them, or for all that the gas pays
pub straight : (c room : ℕ) (prog l rest : List Operation) (n g : ℕ) (fr : Frame) → Each Plain l → drop fr.pos prog ≡ l ++ rest → min (length l) (g + 1) ≤ n
    → run_of (machine prog c room) n g fr ≡ line c room (run_of (machine prog c room) (n - length l)) l g fr
unfolding run_of line
straight c room prog [] rest n g fr none e h = let k : n - 0 ≡ n = omega arith in rw k
straight c room prog (x ∷ l) rest zero g fr (one pl pls) e h = absurd (omega arith)
straight c room prog (x ∷ l) rest (suc n) g fr (one pl pls) e h =
    let k : fr.pos < length prog = omega (arith, simp length-drop at (ap length e)) in
    let d : drop fr.pos prog ≡ op_at prog fr.pos ∷ drop (suc fr.pos) prog = drop-cons prog fr.pos halt k in
    let a : op_at prog fr.pos ≡ x = cc in
    let b : drop (suc fr.pos) prog ≡ l ++ rest = cc in
    let t = lt-ltb fr.pos (length prog) k in
    let price = price_of x (length fr.storage) in
    let j : suc n - suc (length l) ≡ n - length l = omega arith in
    subst (λ (k : ℕ). run_of (machine prog c room) (suc n) g fr ≡ line c room (run_of (machine prog c room) k) (x ∷ l) g fr) (sym j)
    (rw (t, a)
    (one_step g fr (run_of (machine prog c room) n) (line c room (run_of (machine prog c room) (n - length l)) l)
    (λ g₁ fr₁ q h₁. straight c room prog l rest n g₁ fr₁ pls (ap (λ (i : ℕ). drop i prog) q ∙ b) (omega arith))
    price (effect_of c room x fr.stack fr.storage) (rw (t, a) at (priced prog c room fr)) (pl c room fr.stack fr.storage) (dec_lt g price)))

-- a whole program of such operations
pub whole_line : (l : List Operation) → Each Plain l → (c room g : ℕ) (m : List ℕ) → run_to_end l c room g m ≡ line c room (run_of (machine l c room) (g + 1 - length l)) l g (start m)
unfolding run_to_end
whole_line l pl c room g m = straight c room l l [] (g + 1) g (start m) pl (sym (append-nil l)) (omega arith)
