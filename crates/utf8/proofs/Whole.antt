-- Bytes that follow each other as in UTF-8 are passed.
use Prim.Native.Nat.{ℕ, zero, suc, ◌+◌, ◌<◌, ◌≤◌}
use mathlib.Core.Path.{◌≡◌, refl, sym, ap, ◌∙◌}
use mathlib.Core.List.{List, [], ◌∷◌}
use mathlib.Core.Bool.{Bool, true, false, cond, not, ◌&&◌, ◌||◌}
use borrow.Author.Tests.{le-leb, lt-leb, leb-true, ne_eqb}
use native.Mathlib.Nat.{le_trans}
use native.Mathlib.Omega.{arith}
use lib.Dec.{eqb, leb}
use lib.ListN.{length, get_or, take, drop, length-drop}
use lib.Seq.{drop-drop, length-take-le}
use Rattle.std.specs.Prelude.{IfSome}
use Rattle.std.specs.Bool.{then_some}
use Rattle.std.proofs.lemmas.List.{get_or-take, get_or-drop}
use Rattle.base.specs.Range.{within}
use Rattle.base.specs.Code.Skips.{SkipsTo}
use Rattle.base.proofs.Parts.{drop_cons_at}
use Rattle.base.proofs.Tests.{false_true, and_left, and_right, and_both, by_or, by_leb, between, inside}
use Rattle.base.proofs.Skips.{all_first, all_rest, all_fewer}
use Rattle.utf8.specs.Utf8.{utf8, utf8_tail}
use Rattle.utf8.specs.Code.From.{utf8_from}
use Rattle.utf8.specs.Code.Windows.{opened, lowest, highest, follows, follows_at, complete_from, Follow, FollowAll}
use Rattle.utf8.proofs.Lead.{one_is, two_is, three_is, four_is}
use Rattle.utf8.proofs.Second.{three_by, four_by}

-- whether a character is complete
closed : (a b c : ℕ) → a < 0xF0 → b < 0xE0 → c < 0xC0 → opened a b c ≡ false
closed a b c h k l = simp (lt-leb 0xC0 c l, lt-leb 0xE0 b k, lt-leb 0xF0 a h)

open3 : (a b c : ℕ) → 0xC0 ≤ c → opened a b c ≡ true
open3 a b c h = simp (le-leb 0xC0 c h)

open2 : (a b c : ℕ) → c < 0xC0 → 0xE0 ≤ b → opened a b c ≡ true
open2 a b c h k = simp (lt-leb 0xC0 c h, le-leb 0xE0 b k)

open1 : (a b c : ℕ) → c < 0xC0 → b < 0xE0 → 0xF0 ≤ a → opened a b c ≡ true
open1 a b c h k l = simp (lt-leb 0xC0 c h, lt-leb 0xE0 b k, le-leb 0xF0 a l)

pub bounds : (a b c : ℕ) → opened a b c ≡ false → (a < 0xF0) × (b < 0xE0) × (c < 0xC0)
bounds a b c e =
    by_leb 0xC0 c (λ h. false_true (sym e ∙ open3 a b c h))
    (λ h. by_leb 0xE0 b (λ k. false_true (sym e ∙ open2 a b c h k))
    (λ k. by_leb 0xF0 a (λ l. false_true (sym e ∙ open1 a b c h k l)) (λ l. (l, k, h))))

-- what follows then
tail_next : (a b c d : ℕ) → follows a b c d ≡ true → opened a b c ≡ true → within (lowest c) (highest c) d ≡ true
tail_next a b c d f o = sym (ap (λ (p : Bool). cond p (within (lowest c) (highest c) d) (leb d 0x7F || within 0xC2 0xF4 d)) o) ∙ f

first_next : (a b c d : ℕ) → follows a b c d ≡ true → opened a b c ≡ false → 0x7F < d → (0xC2 ≤ d) × (d ≤ 0xF4)
first_next a b c d f o h =
    let e = sym (ap (λ (p : Bool). cond p (within (lowest c) (highest c) d) (leb d 0x7F || within 0xC2 0xF4 d)) o) ∙ f in
    by_or (leb d 0x7F) (within 0xC2 0xF4 d) e (λ p. let q = leb-true d 0x7F p in absurd (omega arith)) (λ p. between 0xC2 0xF4 d p)

plain_tail : (c d : ℕ) → c < 0xE0 → within (lowest c) (highest c) d ≡ true → utf8_tail d ≡ true
plain_tail c d h e =
    simp (ne_eqb c 0xE0 (λ p. omega arith), ne_eqb c 0xF0 (λ p. omega arith), ne_eqb c 0xED (λ p. omega arith), ne_eqb c 0xF4 (λ p. omega arith)) at e

still : (a b c : ℕ) (s : List ℕ) → opened a b c ≡ true → complete_from a b c 0 s ≡ true → ⊥
still a b c s o w = false_true (sym (ap (λ (p : Bool). cond p false true) o) ∙ w)

-- behind b c d, where a character is not complete: the next byte, and what follows it
module _ (n b c d e : ℕ) (s : List ℕ) (o : opened b c d ≡ true) (w : complete_from b c d (suc n) (e ∷ s) ≡ true) where
  ranged_more : (within (lowest d) (highest d) e ≡ true) × (complete_from c d e n s ≡ true)
  ranged_more = (tail_next b c d e (and_left (follows b c d e) (complete_from c d e n s) w) o, and_right (follows b c d e) (complete_from c d e n s) w)

  tail_more : d < 0xE0 → (utf8_tail e ≡ true) × (0x80 ≤ e) × (e ≤ 0xBF) × (complete_from c d e n s ≡ true)
  tail_more h =
      let t = plain_tail d e h ranged_more.0 in
      let u = between 0x80 0xBF e t in
      (t, u.0, u.1, ranged_more.1)

-- the second byte is a tail
least : (p q : Bool) → 0x80 ≤ cond p 0xA0 (cond q 0x90 0x80)
least true q = omega arith
least false true = omega arith
least false false = omega arith

most : (p q : Bool) → cond p 0x9F (cond q 0x8F 0xBF) ≤ 0xBF
most true q = omega arith
most false true = omega arith
most false false = omega arith

second : (d e : ℕ) → within (lowest d) (highest d) e ≡ true → (0x80 ≤ e) × (e ≤ 0xBF)
second d e v =
    let r = between (lowest d) (highest d) e v in
    (le_trans (least (eqb d 0xE0) (eqb d 0xF0)) r.0, le_trans r.1 (most (eqb d 0xED) (eqb d 0xF4)))

mutual
  pub pass : (n a b c : ℕ) (s : List ℕ) → opened a b c ≡ false → complete_from a b c n s ≡ true → utf8 s ≡ utf8 (drop n s)
  pass zero a b c s o w = refl
  pass (suc n) a b c [] o w = false_true w
  pass (suc n) a b c (d ∷ s) o w =
      let f = and_left (follows a b c d) (complete_from b c d n s) w in
      let g = and_right (follows a b c d) (complete_from b c d n s) w in
      let r = bounds a b c o in
      by_leb d 0x7F (λ h. one_is d s h ∙ pass n b c d s (closed b c d (omega arith) (omega arith) (omega arith)) g)
      (λ h. let i = first_next a b c d f o h in
      by_leb d 0xDF (λ k. pass2 n b c d s r.2 i.0 k g) (λ k. pass3 n b c d s k i.1 g))

  pass2 : (n b c d : ℕ) (s : List ℕ) → c < 0xC0 → 0xC2 ≤ d → d ≤ 0xDF → complete_from b c d n s ≡ true → utf8 (d ∷ s) ≡ utf8 (drop n s)
  pass2 zero b c d s k h i w = absurd (still b c d s (open3 b c d (omega arith)) w)
  pass2 (suc n) b c d [] k h i w = false_true w
  pass2 (suc n) b c d (e ∷ s) k h i w =
      let t = tail_more n b c d e s (open3 b c d (omega arith)) w (omega arith) in
      two_is d e s (omega arith) i
      ∙ ap (λ (p : Bool). cond p (utf8 s) false) (and_both (within 0xC2 0xDF d) (utf8_tail e) (inside 0xC2 0xDF d h i) t.0)
      ∙ pass n c d e s (closed c d e (omega arith) (omega arith) (omega arith)) t.3

  -- a character of three bytes or four, from its second byte on
  pass3 : (n b c d : ℕ) (s : List ℕ) → 0xDF < d → d ≤ 0xF4 → complete_from b c d n s ≡ true → utf8 (d ∷ s) ≡ utf8 (drop n s)
  pass3 zero b c d s h i w = absurd (still b c d s (open3 b c d (omega arith)) w)
  pass3 (suc n) b c d [] h i w = false_true w
  pass3 (suc n) b c d (e ∷ s) h i w = let t = ranged_more n b c d e s (open3 b c d (omega arith)) w in pass3_more n c d e s h i t.0 t.1

  pass3_more : (n c d e : ℕ) (s : List ℕ) → 0xDF < d → d ≤ 0xF4 → within (lowest d) (highest d) e ≡ true → complete_from c d e n s ≡ true → utf8 (d ∷ e ∷ s) ≡ utf8 (drop n s)
  pass3_more zero c d e s h i v w = let j = second d e v in absurd (still c d e s (open2 c d e (omega arith) (omega arith)) w)
  pass3_more (suc n) c d e [] h i v w = false_true w
  pass3_more (suc n) c d e (x ∷ s) h i v w =
      let j = second d e v in
      let t = tail_more n c d e x s (open2 c d e (omega arith) (omega arith)) w (omega arith) in
      by_leb d 0xEF
      (λ l. let u : within (cond (eqb d 0xE0) 0xA0 0x80) (cond (eqb d 0xED) 0x9F 0xBF) e ≡ true = simp (ne_eqb d 0xF0 (λ p. omega arith), ne_eqb d 0xF4 (λ p. omega arith)) at v in
      three_is d e x s h l
      ∙ ap (λ (p : Bool). cond p (utf8 s) false) (sym (three_by d e x h l) ∙ and_both _ (utf8_tail x) u t.0)
      ∙ pass n d e x s (closed d e x (omega arith) (omega arith) (omega arith)) t.3)
      (λ l. pass4 n d e x s l i v t.0 t.3)

  -- the fourth byte
  pass4 : (n d e x : ℕ) (s : List ℕ) → 0xEF < d → d ≤ 0xF4 → within (lowest d) (highest d) e ≡ true → utf8_tail x ≡ true → complete_from d e x n s ≡ true → utf8 (d ∷ e ∷ x ∷ s) ≡ utf8 (drop n s)
  pass4 zero d e x s h i v t w =
      let j = second d e v in
      let u = between 0x80 0xBF x t in
      absurd (still d e x s (open1 d e x (omega arith) (omega arith) (omega arith)) w)
  pass4 (suc n) d e x [] h i v t w = false_true w
  pass4 (suc n) d e x (y ∷ s) h i v t w =
      let j = second d e v in
      let u = between 0x80 0xBF x t in
      let z = tail_more n d e x y s (open1 d e x (omega arith) (omega arith) (omega arith)) w (omega arith) in
      let r : within (cond (eqb d 0xF0) 0x90 0x80) (cond (eqb d 0xF4) 0x8F 0xBF) e ≡ true = simp (ne_eqb d 0xE0 (λ p. omega arith), ne_eqb d 0xED (λ p. omega arith)) at v in
      four_is d e x y s h
      ∙ ap (λ (p : Bool). cond p (utf8 s) false)
      (sym (four_by d e x y h) ∙ and_both (leb d 0xF4) _ (le-leb d 0xF4 i) (and_both _ (utf8_tail x && utf8_tail y) r (and_both (utf8_tail x) (utf8_tail y) t z.0)))
      ∙ pass n e x y s (closed e x y (omega arith) (omega arith) (omega arith)) z.3

-- the same by positions
wholes : (n : ℕ) (s : List ℕ) (at : ℕ) → at + n + 3 ≤ length s → Follow s at n → opened (get_or s (at + n) 0) (get_or s (at + n + 1) 0) (get_or s (at + n + 2) 0) ≡ false
    → complete_from (get_or s at 0) (get_or s (at + 1) 0) (get_or s (at + 2) 0) n (drop (at + 3) s) ≡ true
wholes zero s at h f o =
    let z : at + 0 ≡ at = omega arith in
    ap (λ (p : Bool). cond p false true) (sym (ap (λ (i : ℕ). opened (get_or s i 0) (get_or s (i + 1) 0) (get_or s (i + 2) 0)) z) ∙ o)
wholes (suc n) s at h f o =
    let a1 : at + 1 + 1 ≡ at + 2 = omega arith in
    let a2 : at + 1 + 2 ≡ at + 3 = omega arith in
    let a3 : at + 1 + 3 ≡ at + 4 = omega arith in
    let y : at + suc n ≡ at + 1 + n = omega arith in
    let P : ℕ → Type 0 = λ i. follows_at s i ≡ true in
    let r = wholes n s (at + 1) (omega arith) (all_rest P at n f) (rw y at o) in
    ap (complete_from (get_or s at 0) (get_or s (at + 1) 0) (get_or s (at + 2) 0) (suc n)) (drop_cons_at s (at + 3) (at + 4) (omega arith) (omega arith))
    ∙ and_both (follows (get_or s at 0) (get_or s (at + 1) 0) (get_or s (at + 2) 0) (get_or s (at + 3) 0)) _ (all_first P at n f) (rw (a1, a2, a3) at r)

-- n bytes between complete characters are passed
pub between_whole : (n : ℕ) (s : List ℕ) (at : ℕ) → at + n + 3 ≤ length s → opened (get_or s at 0) (get_or s (at + 1) 0) (get_or s (at + 2) 0) ≡ false → Follow s at n
    → opened (get_or s (at + n) 0) (get_or s (at + n + 1) 0) (get_or s (at + n + 2) 0) ≡ false → utf8 (drop (at + 3) s) ≡ utf8 (drop n (drop (at + 3) s))
between_whole n s at h o f p = pass n (get_or s at 0) (get_or s (at + 1) 0) (get_or s (at + 2) 0) (drop (at + 3) s) o (wholes n s at h f p)

pub skips_block : (s : List ℕ) (at start m n : ℕ) → at ≡ start + 3 → n ≤ m → start + m + 3 ≤ length s
    → opened (get_or s start 0) (get_or s (start + 1) 0) (get_or s (start + 2) 0) ≡ false → Follow s start m
    → opened (get_or s (start + n) 0) (get_or s (start + n + 1) 0) (get_or s (start + n + 2) 0) ≡ false → SkipsTo (utf8_from s) at (length s) (at + n)
skips_block s at start m n e h k o f p =
    let z : start + 3 + n ≡ at + n = omega arith in
    record {
      on = omega arith;
      within = omega arith;
      same = ap (utf8_from s) e
          ∙ between_whole n s start (omega arith) o (all_fewer (λ i. follows_at s i ≡ true) start m n h f) p
          ∙ ap utf8 (drop-drop n (start + 3) s) ∙ ap (utf8_from s) z;
    }

-- the bytes that follow three others in a part
pub of_part : (s : List ℕ) (at n m : ℕ) → m ≡ n + 3 → at + m ≤ length s → FollowAll (take m (drop at s)) → Follow s at n
of_part s at n m e g f k h =
    let p : (j : ℕ) → j < m → get_or (take m (drop at s)) j 0 ≡ get_or s (at + j) 0 = λ j l. get_or-take m (drop at s) j 0 l ∙ get_or-drop at s j 0 in
    let l = length-take-le m (drop at s) (omega (arith, length-drop at s)) in
    let z1 : at + (k + 1) ≡ at + k + 1 = omega arith in
    let z2 : at + (k + 2) ≡ at + k + 2 = omega arith in
    let z3 : at + (k + 3) ≡ at + k + 3 = omega arith in
    rw (p k (omega arith), p (k + 1) (omega arith), p (k + 2) (omega arith), p (k + 3) (omega arith), z1, z2, z3) at (f k (omega arith))

-- a block whose last character is complete is passed
pub block_passed : (s : List ℕ) (at start m n : ℕ) → at ≡ start + 3 → n ≤ m → 0 < n → start + m + 3 ≤ length s
    → opened (get_or s start 0) (get_or s (start + 1) 0) (get_or s (start + 2) 0) ≡ false → Follow s start m
    → (q : Bool) → q ≡ opened (get_or s (start + n) 0) (get_or s (start + n + 1) 0) (get_or s (start + n + 2) 0)
    → IfSome (then_some (not q) n) (λ n. (0 < n) × SkipsTo (utf8_from s) at (length s) (at + n))
block_passed s at start m n e h l k o f true p = tt
block_passed s at start m n e h l k o f false p = (l, skips_block s at start m n e h k o f (sym p))
