-- The storage in the work buffer: zeros from a place on, and a store at a slot.
use Rattle.std.proofs.Common.{◌≡◌, ℕ, suc, ◌+◌, ◌-◌, ◌<◌, ◌≤◌, true, false, ltb, List, [], ◌∷◌, ◌++◌, length, get_or, take, drop, set, replicate, refl, ap, append_assoc, add-one, arith, length-append, length-take-le, drop-cons, le-ltb, lt-ltb}
use lib.ListN.{length-replicate}
use borrow.Rule.Slice.PartMut.{put_mid, Post-is}
use lib.Seq.{set_at, take-set-lt}
use Rattle.machine.specs.Machine.{store_at}

-- a buffer that is filled with zeros from a up to e
pub filled : (a e : ℕ) (l z : List ℕ) → a ≤ e → z ≡ replicate (e - a) 0 → put_mid a (e - a) l z ≡ take a l ++ (replicate (e - a) 0 ++ drop e l)
filled a e l z h q = rw (q, Post-is a e l h)

take_snoc : (xs ys : List ℕ) (v n : ℕ) → length xs ≡ n → take (suc n) (xs ++ (v ∷ ys)) ≡ xs ++ (v ∷ [])
take_snoc xs ys v n e = rw (← e) (go xs)
  where
    go : (l : List ℕ) → take (suc (length l)) (l ++ (v ∷ ys)) ≡ l ++ (v ∷ [])
    go [] = refl
    go (x ∷ l) = ap (λ (t : List ℕ). x ∷ t) (go l)

-- a store at a slot, in the buffer and in the list of the used slots
pub store_in : (used i v : ℕ) (w : List ℕ) → i < used → used ≤ length w → take used (set w i v) ≡ store_at (take used w) i v
store_in used i v w h k =
    let n : length (take used w) ≡ used = length-take-le used w k in
    let e : ltb i (length (take used w)) ≡ true = lt-ltb i (length (take used w)) (omega arith) in
    rw (e, take-set-lt used w i v h)

pub store_past : (used i v : ℕ) (w w' : List ℕ) → used ≤ i → i < length w → w' ≡ take used w ++ (replicate (i - used) 0 ++ drop i w) → take (i + 1) (set w' i v) ≡ store_at (take used w) i v
store_past used i v w w' h k q =
    let n : length (take used w) ≡ used = length-take-le used w (omega arith) in
    let f : ltb i (length (take used w)) ≡ false = le-ltb i (length (take used w)) (omega arith) in
    let l : length (take used w ++ replicate (i - used) 0) ≡ i = simp (length-append, length-replicate, n) (omega arith) in
    rw (
      f,
      n,
      q,
      drop-cons w i 0 k,
      ← append_assoc,
      set_at (take used w ++ replicate (i - used) 0) (get_or w i 0) (drop (suc i) w) v i l,
      add-one,
      take_snoc (take used w ++ replicate (i - used) 0) (drop (suc i) w) v i l,
      append_assoc,
    )
