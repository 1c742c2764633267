-- Gas and height over a list of operations, with the values left out: where a trace ends, by index.
use Prim.Native.Nat.{ℕ, zero, suc, ◌+◌, ◌-◌, ◌≤◌, ◌<◌, max}
use native.Mathlib.Omega.{arith}
use native.Mathlib.Decide.{dec_lt, ℕ_discrete}
use mathlib.Core.Path.{◌≡◌, refl, ap}
use mathlib.Core.List.{List, [], ◌∷◌, ◌++◌}
use mathlib.Core.Bool.{Bool, true, false, not, cond}
use lib.ListN.{length, take}
use lib.Dec.{ltb}
use borrow.Author.Tests.{lt-ltb, le-ltb}
use Rattle.base.specs.Outcome.{Outcome, is, refused, and_then}
use Rattle.kinds.specs.Kinds.{value, takes, Operation}
use Rattle.machine.specs.Machine.{Fault, out_of_gas, stack_limit_exceeded, Progress, stop}
use Rattle.correctness.specs.Counting.{price, cost, is_push, is_operator, pushes, operators, op_at, FirstUnpaid}

-- what gas and height decide: the gas left, or a refusal
abbrev pub Metered : Type 0
Metered = Outcome Fault ℕ

abbrev pub onward : Metered → (ℕ → Progress) → Progress
onward (is g) f = f g
onward (refused r) f = stop r

-- the height after an operation, and a push that meets 4096 items
abbrev pub rise : Operation → ℕ → ℕ
rise x h = (h + is_push x) - is_operator x

abbrev pub full_at : ℕ → ℕ → Bool
full_at zero h = false
full_at (suc zero) h = not (ltb h 4096)
full_at (suc (suc q)) h = false

abbrev pub on_full : Bool → Metered → Metered
on_full b m = cond b (refused stack_limit_exceeded) m

-- the definition of "whichever is met first"
unfoldable pub trace : List Operation → ℕ → ℕ → Metered
trace [] g h = is g
trace (x ∷ l) g h = cond (ltb g (price x)) (refused (out_of_gas (price x) g)) (on_full (full_at (is_push x) h) (trace l (g - price x) (rise x h)))

-- the height after a list, and a trace in two parts
unfoldable pub rises : List Operation → ℕ → ℕ
rises [] h = h
rises (x ∷ l) h = rises l (rise x h)

pub rises_append : (a b : List Operation) (h : ℕ) → rises (a ++ b) h ≡ rises b (rises a h)
unfolding rises
rises_append [] b h = refl
rises_append (x ∷ a) b h = rises_append a b (rise x h)

pub trace_append : (a b : List Operation) (g h : ℕ) → trace (a ++ b) g h ≡ and_then (trace a g h) (λ g'. trace b g' (rises a h))
unfolding trace rises
trace_append [] b g h = refl
trace_append (x ∷ a) b g h = go (ltb g (price x)) (full_at (is_push x) h) (trace_append a b (g - price x) (rise x h))
  where
    go : (q q' : Bool) → trace (a ++ b) (g - price x) (rise x h) ≡ and_then (trace a (g - price x) (rise x h)) (λ g'. trace b g' (rises a (rise x h)))
        → cond q (refused (out_of_gas (price x) g)) (on_full q' (trace (a ++ b) (g - price x) (rise x h)))
        ≡ and_then (cond q (refused (out_of_gas (price x) g)) (on_full q' (trace a (g - price x) (rise x h)))) (λ g'. trace b g' (rises a (rise x h)))
    go true true e = refl
    go true false e = refl
    go false true e = refl
    go false false e = e

-- no operator meets too few items, and the greatest height
unfoldable pub Sound : List Operation → ℕ → Type 0
Sound [] h = Unit {0}
Sound (x ∷ l) h = (is_operator x ≤ h) × Sound l (rise x h)

abbrev pub top : ℕ → ℕ → ℕ
top zero h = 0
top (suc q) h = suc h

unfoldable pub peak : List Operation → ℕ → ℕ
peak [] h = 0
peak (x ∷ l) h = max (top (is_push x) h) (peak l (rise x h))

-- an index at which a push meets 4096 items, from a height h on
abbrev pub height_from : ℕ → List Operation → ℕ → ℕ
height_from h l i = (h + pushes (take i l)) - operators (take i l)

abbrev pub MeetsFrom : ℕ → List Operation → ℕ → Type 0
MeetsFrom h l j = (j < length l) × (is_push (op_at l j) ≡ 1) × (height_from h l j ≡ 4096)

push_one : (x : Operation) → is_push x ≤ 1
unfolding is_push
push_one x = go (takes value x.kind)
  where
    go : (b : Bool) → cond b 1 0 ≤ 1
    go true = omega arith
    go false = omega arith

meets_later : (x : Operation) (l : List Operation) (h j : ℕ) → is_operator x ≤ h → MeetsFrom (rise x h) l j → MeetsFrom h (x ∷ l) (suc j)
unfolding pushes operators
meets_later x l h j k m = (omega (arith, m.0), m.1, omega (arith, m.2))

meets_sooner : (x : Operation) (l : List Operation) (h j : ℕ) → is_operator x ≤ h → MeetsFrom h (x ∷ l) (suc j) → MeetsFrom (rise x h) l j
unfolding pushes operators
meets_sooner x l h j k m = (omega (arith, m.0), m.1, omega (arith, m.2))

meets_now : (x : Operation) (l : List Operation) (h : ℕ) → is_push x ≡ 1 → h ≡ 4096 → MeetsFrom h (x ∷ l) zero
unfolding pushes operators
meets_now x l h e q = (omega arith, e, omega arith)

-- is an operation the one?
data Now (x : Operation) (h : ℕ) : Type 0 where
  full : is_push x ≡ 1 → h ≡ 4096 → Now x h
  fine : (is_push x ≡ 1 → h ≡ 4096 → ⊥) → rise x h ≤ 4096 → top (is_push x) h ≤ 4096 → full_at (is_push x) h ≡ false → Now x h

now : (x : Operation) (h : ℕ) → h ≤ 4096 → Now x h
now x h k = go (is_push x) refl
  where
    go : (q : ℕ) → is_push x ≡ q → Now x h
    go zero e = fine (λ a b. omega arith) (omega arith) (rw e (omega arith)) (rw e)
    go (suc zero) e = on (ℕ_discrete h 4096)
      where
        on : Dec (h ≡ 4096) → Now x h
        on (yes a) = full e a
        on (no a) = fine (λ b d. a d) (omega arith) (rw e (omega arith)) (rw (e, lt-ltb h 4096 (omega arith)))
    go (suc (suc q)) e = absurd (omega (arith, push_one x))

-- the trace ends well
pub trace_fine : (l : List Operation) (g h : ℕ) → h ≤ 4096 → cost l ≤ g → peak l h ≤ 4096 → trace l g h ≡ is (g - cost l)
unfolding trace cost peak
trace_fine [] g h a b d = ap is (omega arith)
trace_fine (x ∷ l) g h a b d = go (now x h a) (λ r b' d'. trace_fine l (g - price x) (rise x h) r b' d')
  where
    go : Now x h → (rise x h ≤ 4096 → cost l ≤ g - price x → peak l (rise x h) ≤ 4096 → trace l (g - price x) (rise x h) ≡ is ((g - price x) - cost l)) → trace (x ∷ l) g h ≡ is (g - (price x + cost l))
    go (full e q) ih = absurd (omega (arith, rw e at d))
    go (fine n r t f) ih =
        let s : (g - price x) - cost l ≡ g - (price x + cost l) = omega arith in
        rw (le-ltb g (price x) (omega arith), f, ← s) (ih r (omega arith) (omega arith))

-- it ends at i for want of gas
pub trace_short : (l : List Operation) (g h i : ℕ) → Sound l h → h ≤ 4096 → i < length l → cost (take i l) ≤ g → g < cost (take i l) + price (op_at l i) → ((j : ℕ) → j < i → ¬ (MeetsFrom h l j))
    → trace l g h ≡ refused (out_of_gas (price (op_at l i)) (g - cost (take i l)))
unfolding trace cost Sound
trace_short [] g h i s a n lo hi nm = absurd (omega arith)
trace_short (x ∷ l) g h zero s a n lo hi nm = let e : g - 0 ≡ g = omega arith in rw (lt-ltb g (price x) (omega arith), e)
trace_short (x ∷ l) g h (suc i) s a n lo hi nm = go (now x h a) (λ r. trace_short l (g - price x) (rise x h) i s.1 r (omega arith) (omega arith) (omega arith) (λ j k m. nm (suc j) (omega arith) (meets_later x l h j s.0 m)))
  where
    go : Now x h → (rise x h ≤ 4096 → trace l (g - price x) (rise x h) ≡ refused (out_of_gas (price (op_at l i)) ((g - price x) - cost (take i l)))) → trace (x ∷ l) g h ≡ refused (out_of_gas (price (op_at l i)) (g - (price x + cost (take i l))))
    go (full e q) ih = absurd (nm zero (omega arith) (meets_now x l h e q))
    go (fine ne r t f) ih =
        let s : (g - price x) - cost (take i l) ≡ g - (price x + cost (take i l)) = omega arith in
        rw (le-ltb g (price x) (omega arith), f, ← s) (ih r)

-- it ends at j for want of room
pub trace_full : (l : List Operation) (g h j : ℕ) → Sound l h → h ≤ 4096 → MeetsFrom h l j → ((i : ℕ) → i < j → ¬ (MeetsFrom h l i)) → cost (take j l) + price (op_at l j) ≤ g → trace l g h ≡ refused stack_limit_exceeded
unfolding trace cost Sound pushes operators
trace_full [] g h j s a m nm lo = absurd (omega arith)
trace_full (x ∷ l) g h zero s a m nm lo =
    let e : is_push x ≡ 1 = m.1 in
    rw (le-ltb g (price x) (omega arith), e, le-ltb h 4096 (omega (arith, m.2)))
trace_full (x ∷ l) g h (suc j) s a m nm lo =
    go (now x h a) (λ r. trace_full l (g - price x) (rise x h) j s.1 r (meets_sooner x l h j s.0 m) (λ i k w. nm (suc i) (omega arith) (meets_later x l h i s.0 w)) (omega arith))
  where
    go : Now x h → (rise x h ≤ 4096 → trace l (g - price x) (rise x h) ≡ refused stack_limit_exceeded) → trace (x ∷ l) g h ≡ refused stack_limit_exceeded
    go (full e q) ih = absurd (nm zero (omega arith) (meets_now x l h e q))
    go (fine ne r t f) ih = rw (le-ltb g (price x) (omega arith), f) (ih r)

-- where the greatest height is within bounds no push meets 4096 items
pub none_meets : (l : List Operation) (h : ℕ) → Sound l h → peak l h ≤ 4096 → (j : ℕ) → ¬ (MeetsFrom h l j)
unfolding peak Sound pushes operators
none_meets [] h s d j m = omega arith
none_meets (x ∷ l) h s d zero m = let e : is_push x ≡ 1 = m.1 in omega (arith, rw e at d, m.2)
none_meets (x ∷ l) h s d (suc j) m = none_meets l (rise x h) s.1 (omega arith) j (meets_sooner x l h j s.0 m)

-- and where it is not, a first one does
abbrev pub First : ℕ → List Operation → Type 0
First h l = (j : ℕ) × (MeetsFrom h l j) × ((i : ℕ) → i < j → ¬ (MeetsFrom h l i))

pub first_full : (l : List Operation) (h : ℕ) → Sound l h → h ≤ 4096 → 4096 < peak l h → First h l
unfolding peak Sound pushes operators
first_full [] h s a d = absurd (omega arith)
first_full (x ∷ l) h s a d = go (now x h a) (λ r d'. first_full l (rise x h) s.1 r d')
  where
    go : Now x h → (rise x h ≤ 4096 → 4096 < peak l (rise x h) → First (rise x h) l) → First h (x ∷ l)
    go (full e q) ih = (zero, meets_now x l h e q, λ i k. absurd (omega arith))
    go (fine ne r t f) ih = let w = ih r (omega arith) in (suc w.0, meets_later x l h w.0 s.0 w.1, each w)
      where
        each : (w : First (rise x h) l) → (i : ℕ) → i < suc w.0 → ¬ (MeetsFrom h (x ∷ l) i)
        each w zero k m = ne m.1 (omega (arith, m.2))
        each w (suc i) k m = w.2 i (omega arith) (meets_sooner x l h i s.0 m)

-- gas that does not cover the prices ends at a first operation
pub first_short : (l : List Operation) (g : ℕ) → g < cost l → (i : ℕ) × FirstUnpaid l g i
unfolding cost
first_short [] g h = absurd (omega arith)
first_short (x ∷ l) g h = go (dec_lt g (price x)) (λ k. first_short l (g - price x) k)
  where
    go : Dec (g < price x) → (g - price x < cost l → (i : ℕ) × FirstUnpaid l (g - price x) i) → (i : ℕ) × FirstUnpaid (x ∷ l) g i
    go (yes k) ih = (zero, record { within = omega arith; paid = λ j a. absurd (omega arith); short = omega arith })
    go (no k) ih =
        let w = ih (omega arith) in
        (suc w.0, record { within = omega (arith, w.1.within); paid = each w; short = omega (arith, w.1.short) })
      where
        each : (w : (i : ℕ) × FirstUnpaid l (g - price x) i) → (j : ℕ) → j < suc w.0 → cost (take j (x ∷ l)) + price (op_at (x ∷ l) j) ≤ g
        each w zero a = omega arith
        each w (suc j) a = omega (arith, w.1.paid j (omega arith))

-- what is paid before operation i
cost_next : (l : List Operation) (i : ℕ) → i < length l → cost (take (suc i) l) ≡ cost (take i l) + price (op_at l i)
unfolding cost
cost_next [] i h = absurd (omega arith)
cost_next (x ∷ l) zero h = omega arith
cost_next (x ∷ l) (suc i) h = omega (arith, cost_next l i (omega arith))

pub short_paid : (l : List Operation) (g i : ℕ) → FirstUnpaid l g i → cost (take i l) ≤ g
unfolding cost
short_paid l g zero s = omega arith
short_paid l g (suc i) s = omega (arith, cost_next l i (omega (arith, s.within)), s.paid i (omega arith))

-- where the gas covers the prices, each operation is paid
pub all_paid : (l : List Operation) (i : ℕ) → i < length l → cost (take i l) + price (op_at l i) ≤ cost l
unfolding cost
all_paid [] i h = absurd (omega arith)
all_paid (x ∷ l) zero h = omega arith
all_paid (x ∷ l) (suc i) h = omega (arith, all_paid l i (omega arith))
