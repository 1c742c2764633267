-- A store at one slot, slot by slot.
use Rattle.std.proofs.Common.{◌≡◌, ℕ, ◌+◌, ◌-◌, ◌<◌, ◌≤◌, max, List, [], ◌∷◌, ◌++◌, length, get_or, replicate, sym, ap, ◌∙◌, append_assoc, arith, length-append, length-set, get_or-set_other, get_or-set_same, get_or-append-add, le-ltb, lt-ltb}
use native.Mathlib.Decide.{dec_lt}
use lib.ListN.{length-replicate, get_or-replicate, get_or-append, get_or-eq_default}
use lib.Seq.{get_or_at}
use Rattle.machine.specs.Machine.{store_at}

pub store_length : (m : List ℕ) (i v : ℕ) → length (store_at m i v) ≡ max (length m) (i + 1)
store_length m i v = go (dec_lt i (length m))
  where
    go : Dec (i < length m) → length (store_at m i v) ≡ max (length m) (i + 1)
    go (yes h) = rw (lt-ltb i (length m) h) (length-set m i v ∙ omega arith)
    go (no h) = let k : length m ≤ i = omega arith in rw (le-ltb i (length m) k) (simp (length-append, length-replicate) (omega arith))

pub store_same : (m : List ℕ) (i v : ℕ) → get_or (store_at m i v) i 0 ≡ v
store_same m i v = go (dec_lt i (length m))
  where
    go : Dec (i < length m) → get_or (store_at m i v) i 0 ≡ v
    go (yes h) = rw (lt-ltb i (length m) h) (get_or-set_same m i v 0 h)
    go (no h) =
        let k : length m ≤ i = omega arith in
        let l : length (m ++ replicate (i - length m) 0) ≡ i = simp (length-append, length-replicate) (omega arith) in
        rw (le-ltb i (length m) k, ← append_assoc) (get_or_at (m ++ replicate (i - length m) 0) v [] 0 i l)

pub store_other : (m : List ℕ) (i v j : ℕ) → (j ≡ i → ⊥) → get_or (store_at m i v) j 0 ≡ get_or m j 0
store_other m i v j ne = go (dec_lt i (length m))
  where
    behind : length m ≤ i → length m ≤ j → Dec (j < i) → get_or (replicate (i - length m) 0 ++ (v ∷ [])) (j - length m) 0 ≡ 0
    behind k l (yes y) = get_or-append (replicate (i - length m) 0) (v ∷ []) 0 (j - length m) (simp length-replicate (omega arith)) ∙ get_or-replicate (i - length m) (j - length m) 0 0 (omega arith)
    behind k l (no y) = get_or-eq_default (replicate (i - length m) 0 ++ (v ∷ [])) 0 {n = j - length m} (simp (length-append, length-replicate) (omega arith))

    past : length m ≤ i → Dec (j < length m) → get_or (m ++ (replicate (i - length m) 0 ++ (v ∷ []))) j 0 ≡ get_or m j 0
    past k (yes y) = get_or-append m _ 0 j y
    past k (no y) =
        let l : length m ≤ j = omega arith in
        let e : j ≡ length m + (j - length m) = omega arith in
        ap (λ (x : ℕ). get_or (m ++ (replicate (i - length m) 0 ++ (v ∷ []))) x 0) e
        ∙ get_or-append-add m (replicate (i - length m) 0 ++ (v ∷ [])) (j - length m) 0
        ∙ behind k l (dec_lt j i)
        ∙ sym (get_or-eq_default m 0 {n = j} l)

    go : Dec (i < length m) → get_or (store_at m i v) j 0 ≡ get_or m j 0
    go (yes h) = rw (lt-ltb i (length m) h) (get_or-set_other m i j v 0 ne)
    go (no h) = let k : length m ≤ i = omega arith in rw (le-ltb i (length m) k) (past k (dec_lt j (length m)))
