-- Copies of some slots, and a run on those that it needs.
use Prim.Native.Nat.{ℕ, zero, suc, ◌+◌, ◌-◌, ◌≤◌, ◌<◌, ◌/◌, max}
use native.Mathlib.Omega.{arith}
use native.Mathlib.Decide.{dec_lt}
use native.Mathlib.Numerals.{add-one}
use mathlib.Core.Path.{◌≡◌, refl, sym, ap, ◌∙◌}
use mathlib.Core.Bool.{Bool, true, false, cond, ◌&&◌, ◌||◌, and-false}
use mathlib.Core.List.{List, [], ◌∷◌, ◌++◌}
use lib.ListN.{length, get_or, take, drop, length-append, length-drop, get_or-append, get_or-eq_default}
use lib.Seq.{get_or-take, get_or-drop, get_or-append-add, length-take-le, ext_get_or}
use lib.Dec.{eqb, leb, ltb}
use borrow.Rule.Slice.PartMut.{put_mid}
use Rattle.std.proofs.Common.{rules}
use Rattle.std.proofs.lemmas.List.{places}
use Rattle.std.specs.List.{list_any}
use borrow.Author.Tests.{eq-eqb, le-leb, lt-leb, lt-ltb, le-ltb}
use Rattle.base.proofs.Tests.{false_true, and_right, and_both, by_bool, by_eqb}
use Rattle.kinds.specs.Kinds.{Operation, operation}
use Rattle.machine.specs.Machine.{store_at, price_of, halt, decode, run_to_end}
use Rattle.machine.specs.Code.Alike.{AlikeBut}
use Rattle.machine.proofs.Alike.{Respects, same_whole}
use Rattle.machine.proofs.Program.{decode-length, decode_at}
use Rattle.machine.proofs.Slots.{store_length, store_same, store_other}
use Rattle.perform.specs.Code.Needed.{names, named, needed, stores, changed, Copied, Serves}

pub copied_none : (c : ℕ → Bool) (s d : List ℕ) → ((j : ℕ) → c j ≡ false) → Copied c s d d
copied_none c s d e = record { long = refl; each = λ j h. rw (e j) }

pub copied_as : (c c' : ℕ → Bool) {s d x : List ℕ} → ((j : ℕ) → c j ≡ c' j) → Copied c s d x → Copied c' s d x
copied_as c c' e p = record { long = p.long; each = λ j h. rw (← e j) (p.each j h) }

-- a part
pub part_copied : (a e : ℕ) (s d q : List ℕ) → a ≤ e → e ≤ length d → e ≤ length s → q ≡ take (e - a) (drop a s) → Copied (λ j. leb a j && ltb j e) s d (put_mid a (e - a) d q)
part_copied a e s d q h k l f =
    rw f (record { long = search (rules, places); each = λ j b. go j b (dec_lt j a) (dec_lt j e) })
  where
    go : (j : ℕ) → j < length d → Dec (j < a) → Dec (j < e)
        → get_or (put_mid a (e - a) d (take (e - a) (drop a s))) j 0 ≡ cond (leb a j && ltb j e) (get_or s j 0) (get_or d j 0)
    go j b (yes x) y = rw (lt-leb a j x) (grind (arith, places))
    go j b (no x) (yes y) = rw (le-leb a j (omega arith), lt-ltb j e y) (grind (arith, places))
    go j b (no x) (no y) = rw (le-leb a j (omega arith), le-ltb j e (omega arith)) (grind (arith, places))

-- a copy, and then another from the same source
pub copied_both : (c c' : ℕ → Bool) {s d x y : List ℕ} → Copied c s d x → Copied c' s x y → Copied (λ j. c j || c' j) s d y
copied_both c c' {s = s} {d = d} {x = x} p q = record { long = q.long ∙ p.long; each = λ j h. q.each j (omega (arith, h, p.long)) ∙ go (c j) (c' j) (get_or x j 0) (get_or s j 0) (get_or d j 0) (p.each j h) }
  where
    go : (a b : Bool) (n u v : ℕ) → n ≡ cond a u v → cond b u n ≡ cond (a || b) u v
    go true true n u v e = refl
    go true false n u v e = e
    go false true n u v e = refl
    go false false n u v e = e

part_none : (a j : ℕ) → (leb a j && ltb j a) ≡ false
part_none a j = go (dec_lt j a)
  where
    none : (b : Bool) → (b && false) ≡ false
    none true = refl
    none false = refl

    go : Dec (j < a) → (leb a j && ltb j a) ≡ false
    go (yes l) = rw (lt-leb a j l)
    go (no l) = let g : a ≤ j = omega arith in rw (le-ltb j a g) (none (leb a j))

-- a part that is not made longer by an end before its start
part_end : (a e i j : ℕ) → a ≤ i → e ≤ i → i ≤ max a e → (leb a j && ltb j i) ≡ (leb a j && ltb j e)
part_end a e i j h k l = go (dec_lt e a)
  where
    none : e < a → Dec (j < a) → (leb a j && ltb j e) ≡ false
    none g (yes y) = rw (lt-leb a j y)
    none g (no y) = let u : a ≤ j = omega arith in let v : e ≤ j = omega arith in rw (le-leb a j u, le-ltb j e v)

    go : Dec (e < a) → (leb a j && ltb j i) ≡ (leb a j && ltb j e)
    go (yes g) = let q : i ≡ a = omega arith in rw q (part_none a j ∙ sym (none g (dec_lt j a)))
    go (no g) = let q : i ≡ e = omega arith in rw q

pub part_ends : (a e i : ℕ) {s d x : List ℕ} → a ≤ i → e ≤ i → i ≤ max a e → Copied (λ j. leb a j && ltb j i) s d x → Copied (λ j. leb a j && ltb j e) s d x
part_ends a e i h k l = copied_as (λ j. leb a j && ltb j i) (λ j. leb a j && ltb j e) (λ j. part_end a e i j h k l)

-- one operation more
pub named_more : (ks vs : List ℕ) (used n : ℕ) {s d x y : List ℕ} → Copied (λ j. named ks vs n j && ltb j used) s d x
    → Copied (λ j. names (operation (get_or ks n 0) (get_or vs n 0)) j && ltb j used) s x y → Copied (λ j. named ks vs (n + 1) j && ltb j used) s d y
unfolding named
named_more ks vs used n p q =
    rw add-one (copied_as (λ j. (named ks vs n j && ltb j used) || (names (operation (get_or ks n 0) (get_or vs n 0)) j && ltb j used)) (λ j. (named ks vs n j || names (operation (get_or ks n 0) (get_or vs n 0)) j) && ltb j used) (λ j. go (named ks vs n j) (names (operation (get_or ks n 0) (get_or vs n 0)) j) (ltb j used)) (copied_both (λ j. named ks vs n j && ltb j used) (λ j. names (operation (get_or ks n 0) (get_or vs n 0)) j && ltb j used) p q))
  where
    go : (a b c : Bool) → ((a && c) || (b && c)) ≡ ((a || b) && c)
    go true true true = refl
    go true true false = refl
    go true false true = refl
    go true false false = refl
    go false b c = refl

pub named_none : (ks vs : List ℕ) (used : ℕ) (s d : List ℕ) → Copied (λ j. named ks vs 0 j && ltb j used) s d d
unfolding named
named_none ks vs used s d = copied_none (λ j. false) s d (λ j. refl)

named_at : (ks vs : List ℕ) (n i j : ℕ) → i < n → names (operation (get_or ks i 0) (get_or vs i 0)) j ≡ true → named ks vs n j ≡ true
unfolding named
named_at ks vs zero i j h e = absurd (omega arith)
named_at ks vs (suc n) i j h e = go (dec_lt i n) (λ l. named_at ks vs n i j l e)
  where
    left : (a b : Bool) → a ≡ true → (a || b) ≡ true
    left true b q = refl
    left false b q = false_true q

    right : (a b : Bool) → b ≡ true → (a || b) ≡ true
    right true b q = refl
    right false b q = q

    go : Dec (i < n) → (i < n → named ks vs n j ≡ true) → (named ks vs n j || names (operation (get_or ks n 0) (get_or vs n 0)) j) ≡ true
    go (yes l) ih = left _ _ (ih l)
    go (no l) ih = let q : i ≡ n = omega arith in right (named ks vs n j) _ (rw (← q) e)

stores_at : (ks : List ℕ) (i : ℕ) → i < length ks → eqb (get_or ks i 0) 12 ≡ true → stores ks ≡ true
unfolding stores
stores_at [] i h e = absurd (omega arith)
stores_at (k ∷ ks) zero h e = rw e
stores_at (k ∷ ks) (suc i) h e = go (eqb k 12) (stores_at ks i (omega arith) e)
  where
    go : (b : Bool) → stores ks ≡ true → (b || stores ks) ≡ true
    go true q = refl
    go false q = q

-- the fold over the kinds
pub stores_any : (ks : List ℕ) → stores ks ≡ list_any (λ k. eqb k 12) ks
unfolding stores
stores_any [] = refl
stores_any (k ∷ ks) = ap (λ (b : Bool). eqb k 12 || b) (stores_any ks)

module _ (ks vs : List ℕ) (used : ℕ) where
  needed_at : (i j : ℕ) → i < length ks → names (operation (get_or ks i 0) (get_or vs i 0)) j ≡ true → needed ks vs used j ≡ true
  needed_at i j h e = go (leb (length ks) (used / 8))
    where
      go : (b : Bool) → cond b (named ks vs (length ks) j) true ≡ true
      go true = named_at ks vs (length ks) i j h e
      go false = refl

  -- the slots of m₀ that are needed, or all of them
  module _ (m₀ : List ℕ) where
    stored : (i v : ℕ) → changed ks vs used i ≡ true → (m m' : List ℕ) → Serves ks vs used m₀ m m' → Serves ks vs used m₀ (store_at m i v) (store_at m' i v)
    stored i v n m m' r =
        record {
          long = store_length m i v ∙ ap (λ (l : ℕ). max l (i + 1)) r.long ∙ sym (store_length m' i v);
          more = rw (store_length m i v) (omega (arith, r.more));
          same = λ j e. slot j (r.same j e);
          past = λ j l. slot j (r.past j l);
          kept = λ j e l. r.kept j e l ∙ sym (store_other m' i v j (λ q. false_true (sym e ∙ ap (changed ks vs used) q ∙ n)));
        }
      where
        slot : (j : ℕ) → get_or m j 0 ≡ get_or m' j 0 → get_or (store_at m i v) j 0 ≡ get_or (store_at m' i v) j 0
        slot j e =
            by_eqb j i (λ q. rw q (store_same m i v ∙ sym (store_same m' i v))) (λ q. store_other m i v j q ∙ e ∙ sym (store_other m' i v j q))

    -- an operation that names only slots that are needed, and is a Store only where the program is said to have one
    touches : (o : Operation) → ((j : ℕ) → names o j ≡ true → needed ks vs used j ≡ true) → (eqb o.kind 12 ≡ true → stores ks ≡ true) → Respects (Serves ks vs used m₀) o
    touches o h s = record {
      loads = λ e m m' r. r.same o.operand (need e);
      stores = λ e v m m' r. stored o.operand v (and_both (stores ks) (needed ks vs used o.operand) (s (eq-eqb o.kind 12 e)) (needs e)) m m' r;
      price = λ m m' r. ap (price_of o) r.long;
    }
      where
        need : o.kind ≡ 11 → needed ks vs used o.operand ≡ true
        need e = h o.operand (rw (e, eq-eqb o.operand o.operand refl))

        needs : o.kind ≡ 12 → needed ks vs used o.operand ≡ true
        needs e = h o.operand (rw (e, eq-eqb o.operand o.operand refl))

    respects : length ks ≡ length vs → (i : ℕ) → Respects (Serves ks vs used m₀) (get_or (decode ks vs) i halt)
    respects e i = go (dec_lt i (length ks))
      where
        go : Dec (i < length ks) → Respects (Serves ks vs used m₀) (get_or (decode ks vs) i halt)
        go (yes h) = rw (decode_at ks vs i e h) (touches (operation (get_or ks i 0) (get_or vs i 0)) (λ j q. needed_at i j h q) (λ q. stores_at ks i h q))
        go (no h) = rw (get_or-eq_default (decode ks vs) halt {n = i} (omega (arith, decode-length ks vs e))) (touches halt (λ j q. false_true q) (λ q. false_true q))

  -- what is copied into the work buffer serves a run from the storage
  begins : (m w w₀ : List ℕ) → Copied (λ j. needed ks vs used j && ltb j used) m w w₀ → used ≤ length m → length w ≡ length m → Serves ks vs used m (take used w₀) (take used m)
  begins m w w₀ p h l =
      record {
        long = lw ∙ sym lm;
        more = omega (arith, lw);
        same = λ j e. go j e (dec_lt j used);
        past = past;
        kept = λ j e k. sym (get_or-take used m j 0 k);
      }
    where
      lw : length (take used w₀) ≡ used
      lw = length-take-le used w₀ (omega (arith, p.long))

      lm : length (take used m) ≡ used
      lm = length-take-le used m h

      past : (j : ℕ) → used ≤ j → get_or (take used w₀) j 0 ≡ get_or (take used m) j 0
      past j k = get_or-eq_default (take used w₀) 0 {n = j} (omega (arith, lw)) ∙ sym (get_or-eq_default (take used m) 0 {n = j} (omega (arith, lm)))

      go : (j : ℕ) → needed ks vs used j ≡ true → Dec (j < used) → get_or (take used w₀) j 0 ≡ get_or (take used m) j 0
      go j e (yes k) = get_or-take used w₀ j 0 k ∙ p.each j (omega arith) ∙ rw (e, lt-ltb j used k) (sym (get_or-take used m j 0 k))
      go j e (no k) = past j (omega arith)

  pub served : (c g : ℕ) (m w w₀ : List ℕ) → length ks ≡ length vs → Copied (λ j. needed ks vs used j && ltb j used) m w w₀ → used ≤ length m → length w ≡ length m
      → AlikeBut (Serves ks vs used m) (run_to_end (decode ks vs) c (length m) g (take used w₀)) (run_to_end (decode ks vs) c (length m) g (take used m))
  served c g m w w₀ e p h l = same_whole (Serves ks vs used m) (decode ks vs) c (length m) (respects m e) g (take used w₀) (take used m) (begins m w w₀ p h l)

  -- what is copied back is the storage that the run leaves
  pub brought : (after : ℕ) (m w m' x y : List ℕ) → length w ≡ length m → after ≤ length w → Serves ks vs used m (take after w) m'
      → Copied (λ j. changed ks vs used j && ltb j used) w m x → Copied (λ j. leb used j && ltb j after) w x y → y ≡ m' ++ drop (length m') m
  brought after m w m' x y l h r p q = ext_get_or 0 y (m' ++ drop (length m') m) (z.long ∙ sym long) (λ j b. each j (omega (arith, b, z.long)))
    where
      z : Copied (λ j. (changed ks vs used j && ltb j used) || (leb used j && ltb j after)) w m y
      z = copied_both (λ j. changed ks vs used j && ltb j used) (λ j. leb used j && ltb j after) p q

      size : length m' ≡ after
      size = sym r.long ∙ length-take-le after w h

      long : length (m' ++ drop (length m') m) ≡ length m
      long = simp (length-append, length-drop) (omega (arith, size))

      more : used ≤ after
      more = omega (arith, r.more, r.long, size)

      within : (j : ℕ) → j < after → get_or (m' ++ drop (length m') m) j 0 ≡ get_or m' j 0
      within j k = get_or-append m' (drop (length m') m) 0 j (omega (arith, size))

      behind : (j : ℕ) → after ≤ j → get_or (m' ++ drop (length m') m) j 0 ≡ get_or m j 0
      behind j k =
          let e : j ≡ length m' + (j - length m') = omega (arith, size) in
          ap (λ (i : ℕ). get_or (m' ++ drop (length m') m) i 0) e
          ∙ get_or-append-add m' (drop (length m') m) (j - length m') 0
          ∙ get_or-drop (length m') m (j - length m') 0
          ∙ ap (λ (i : ℕ). get_or m i 0) (sym e)

      each : (j : ℕ) → j < length m → get_or y j 0 ≡ get_or (m' ++ drop (length m') m) j 0
      each j b = z.each j b ∙ go (dec_lt j used) (dec_lt j after)
        where
          go : Dec (j < used) → Dec (j < after) → cond ((changed ks vs used j && ltb j used) || (leb used j && ltb j after)) (get_or w j 0) (get_or m j 0) ≡ get_or (m' ++ drop (length m') m) j 0
          go (yes k) (yes a) =
              rw (lt-ltb j used k, lt-leb used j k, within j a)
              (by_bool (changed ks vs used j) (λ e. rw e (sym (get_or-take after w j 0 a) ∙ r.same j (and_right (stores ks) (needed ks vs used j) e))) (λ e. rw e (r.kept j e k)))
          go (yes k) (no a) = absurd (omega (arith, more))
          go (no k) (yes a) =
              let u : used ≤ j = omega arith in
              rw (le-ltb j used u, and-false (changed ks vs used j), le-leb used j u, lt-ltb j after a, within j a) (sym (get_or-take after w j 0 a) ∙ r.past j u)
          go (no k) (no a) =
              let u : used ≤ j = omega arith in
              let v : after ≤ j = omega arith in
              rw (le-ltb j used u, and-false (changed ks vs used j), le-leb used j u, le-ltb j after v, behind j v)
