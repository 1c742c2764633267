-- The syntax of RFC 3629, section 4, describes what section 3 encodes: `utf8 s ≡ true` just where `Valid s`.
use Prim.Native.Nat.{ℕ, ◌+◌, ◌-◌, ◌*◌, ◌/◌, ◌%◌, ◌<◌, ◌≤◌}
use mathlib.Core.Path.{◌≡◌, refl, sym, ap, ◌∙◌}
use mathlib.Core.List.{List, [], ◌∷◌, ◌++◌, append_assoc, append-nil}
use mathlib.Core.Bool.{Bool, true, false, cond, ◌&&◌, ◌||◌}
use borrow.Author.Tests.{le-leb, lt-leb, leb-true, eqb-true, ne_eqb}
use native.Mathlib.Omega.{arith}
use lib.Dec.{leb, eqb}
use Rattle.utf8.specs.Utf8.{utf8, after, after2, after3, utf8_tail, utf8_2, utf8_3, utf8_4}
use Rattle.base.specs.Range.{within}
use Rattle.base.proofs.Tests.{inside, between, and_left, and_right, and_both, by_or, by_leb, by_cond, false_true}
use Rattle.utf8.proofs.Lead.{utf8_cons, after_cons, after2_cons, after3_cons, one_is, two_is, three_is, four_is}
use Rattle.base.specs.Lists.{all}
use Rattle.utf8.specs.Encode.{scalar, encode, encode2, encode3, encode4, encodes, Valid}

-- the alternatives of UTF8-3
module _ (b c : ℕ) (k : 0x80 ≤ c) (l : c ≤ 0xBF) where
  three_e0 : 0xA0 ≤ b → b ≤ 0xBF → utf8_3 0xE0 b c ≡ true
  three_e0 p q = simp (inside 0xA0 0xBF b p q, inside 0x80 0xBF c k l)

  three_ed : 0x80 ≤ b → b ≤ 0x9F → utf8_3 0xED b c ≡ true
  three_ed p q = simp (inside 0x80 0x9F b p q, inside 0x80 0xBF c k l)

  three_e1 : (a : ℕ) → 0xE1 ≤ a → a ≤ 0xEC → 0x80 ≤ b → b ≤ 0xBF → utf8_3 a b c ≡ true
  three_e1 a m n p q = simp (ne_eqb a 0xE0 (λ e. omega arith), le-leb 0xE1 a m, le-leb a 0xEC n, le-leb 0x80 b p, le-leb b 0xBF q, le-leb 0x80 c k, le-leb c 0xBF l)

  three_ee : (a : ℕ) → 0xEE ≤ a → a ≤ 0xEF → 0x80 ≤ b → b ≤ 0xBF → utf8_3 a b c ≡ true
  three_ee a m n p q =
      simp (
        ne_eqb a 0xE0 (λ e. omega arith),
        le-leb 0xE1 a (omega arith),
        lt-leb a 0xEC (omega arith),
        ne_eqb a 0xED (λ e. omega arith),
        le-leb 0xEE a m,
        le-leb a 0xEF n,
        le-leb 0x80 b p,
        le-leb b 0xBF q,
        le-leb 0x80 c k,
        le-leb c 0xBF l,
      )

-- the alternatives of UTF8-4
module _ (b c d : ℕ) (k : 0x80 ≤ c) (l : c ≤ 0xBF) (m : 0x80 ≤ d) (n : d ≤ 0xBF) where
  four_f0 : 0x90 ≤ b → b ≤ 0xBF → utf8_4 0xF0 b c d ≡ true
  four_f0 p q = simp (inside 0x90 0xBF b p q, inside 0x80 0xBF c k l, inside 0x80 0xBF d m n)

  four_f4 : 0x80 ≤ b → b ≤ 0x8F → utf8_4 0xF4 b c d ≡ true
  four_f4 p q = simp (inside 0x80 0x8F b p q, inside 0x80 0xBF c k l, inside 0x80 0xBF d m n)

  four_f1 : (a : ℕ) → 0xF1 ≤ a → a ≤ 0xF3 → 0x80 ≤ b → b ≤ 0xBF → utf8_4 a b c d ≡ true
  four_f1 a g h p q =
      simp (
        ne_eqb a 0xF0 (λ e. omega arith),
        le-leb 0xF1 a g,
        le-leb a 0xF3 h,
        le-leb 0x80 b p,
        le-leb b 0xBF q,
        le-leb 0x80 c k,
        le-leb c 0xBF l,
        le-leb 0x80 d m,
        le-leb d 0xBF n,
      )

module _ (c : ℕ) (t : List ℕ) where
  one_in : c ≤ 0x7F → utf8 (encode c ++ t) ≡ utf8 t
  one_in h = let e : encode c ≡ c ∷ [] = simp (le-leb c 0x7F h) in ap (λ (l : List ℕ). utf8 (l ++ t)) e ∙ one_is c t h

  two_in : 0x7F < c → c ≤ 0x7FF → utf8 (encode c ++ t) ≡ utf8 t
  two_in g h =
      let e : encode c ≡ encode2 c = simp (lt-leb c 0x7F g, le-leb c 0x7FF h) in
      let q : utf8_2 (0xC0 + c / 64) (0x80 + c % 64) ≡ true =
      simp (le-leb 0xC2 (0xC0 + c / 64) (omega arith), le-leb (0xC0 + c / 64) 0xDF (omega arith), le-leb 0x80 (0x80 + c % 64) (omega arith), le-leb (0x80 + c % 64) 0xBF (omega arith)) in
      ap (λ (l : List ℕ). utf8 (l ++ t)) e ∙ two_is (0xC0 + c / 64) (0x80 + c % 64) t (omega arith) (omega arith) ∙ ap (λ (b : Bool). cond b (utf8 t) false) q

  three_in : 0x7FF < c → c ≤ 0xFFFF → (0xD7FF < c → 0xE000 ≤ c) → utf8 (encode c ++ t) ≡ utf8 t
  three_in g h s =
      let x = 0xE0 + c / 4096 in
      let y = 0x80 + c / 64 % 64 in
      let z = 0x80 + c % 64 in
      let e : encode c ≡ encode3 c = simp (lt-leb c 0x7F (omega arith), lt-leb c 0x7FF g, le-leb c 0xFFFF h) in
      let q : utf8_3 x y z ≡ true =
      by_leb c 0xFFF
      (λ p. let w : x ≡ 0xE0 = omega arith in rw w (three_e0 y z (omega arith) (omega arith) (omega arith) (omega arith)))
      (λ p. by_leb c 0xCFFF
      (λ r. three_e1 y z (omega arith) (omega arith) x (omega arith) (omega arith) (omega arith) (omega arith))
      (λ r. by_leb c 0xD7FF
      (λ u. let w : x ≡ 0xED = omega arith in rw w (three_ed y z (omega arith) (omega arith) (omega arith) (omega arith)))
      (λ u. let v = s u in three_ee y z (omega arith) (omega arith) x (omega arith) (omega arith) (omega arith) (omega arith)))) in
      ap (λ (l : List ℕ). utf8 (l ++ t)) e ∙ three_is x y z t (omega arith) (omega arith) ∙ ap (λ (b : Bool). cond b (utf8 t) false) q

  four_in : 0xFFFF < c → c ≤ 0x10FFFF → utf8 (encode c ++ t) ≡ utf8 t
  four_in g h =
      let x = 0xF0 + c / 262144 in
      let y = 0x80 + c / 4096 % 64 in
      let z = 0x80 + c / 64 % 64 in
      let v = 0x80 + c % 64 in
      let e : encode c ≡ encode4 c = simp (lt-leb c 0x7F (omega arith), lt-leb c 0x7FF (omega arith), lt-leb c 0xFFFF g) in
      let q : utf8_4 x y z v ≡ true =
      by_leb c 0x3FFFF
      (λ p. let w : x ≡ 0xF0 = omega arith in rw w (four_f0 y z v (omega arith) (omega arith) (omega arith) (omega arith) (omega arith) (omega arith)))
      (λ p. by_leb c 0xFFFFF
      (λ r. four_f1 y z v (omega arith) (omega arith) (omega arith) (omega arith) x (omega arith) (omega arith) (omega arith) (omega arith))
      (λ r. let w : x ≡ 0xF4 = omega arith in rw w (four_f4 y z v (omega arith) (omega arith) (omega arith) (omega arith) (omega arith) (omega arith)))) in
      ap (λ (l : List ℕ). utf8 (l ++ t)) e ∙ four_is x y z v t (omega arith) ∙ ap (λ (b : Bool). cond b (utf8 t) false) q

high : (c : ℕ) → scalar c ≡ true → 0xD7FF < c → (0xE000 ≤ c) × (c ≤ 0x10FFFF)
high c e h =
    let w : within 0xE000 0x10FFFF c ≡ true = simp (lt-leb c 0xD7FF h) at e in
    between 0xE000 0x10FFFF c w

char_in : (c : ℕ) (t : List ℕ) → scalar c ≡ true → utf8 (encode c ++ t) ≡ utf8 t
char_in c t e =
    by_leb c 0x7F (one_in c t)
    (λ g. by_leb c 0x7FF (two_in c t g)
    (λ h. by_leb c 0xFFFF (λ k. three_in c t h k (λ u. (high c e u).0)) (λ k. four_in c t k (high c e (omega arith)).1)))

-- encoded characters before a text leave it as it was
pub before : (cs t : List ℕ) → all scalar cs ≡ true → utf8 (encodes cs ++ t) ≡ utf8 t
before [] t e = refl
before (c ∷ cs) t e =
    ap utf8 (append_assoc (encode c) (encodes cs) t)
    ∙ char_in c (encodes cs ++ t) (and_left (scalar c) (all scalar cs) e)
    ∙ before cs t (and_right (scalar c) (all scalar cs) e)

-- what is encoded is UTF-8
pub sound : (cs : List ℕ) → all scalar cs ≡ true → utf8 (encodes cs) ≡ true
sound cs e = ap utf8 (sym (append-nil (encodes cs))) ∙ before cs [] e

scalar_low : (c : ℕ) → c ≤ 0xD7FF → scalar c ≡ true
scalar_low c h = simp (le-leb c 0xD7FF h)

scalar_high : (c : ℕ) → 0xE000 ≤ c → c ≤ 0x10FFFF → scalar c ≡ true
scalar_high c g h = simp (lt-leb c 0xD7FF (omega arith), le-leb 0xE000 c g, le-leb c 0x10FFFF h)

valid_char : (c : ℕ) (bs t : List ℕ) → scalar c ≡ true → encode c ≡ bs → Valid t → Valid (bs ++ t)
valid_char c bs t e p v =
    (c ∷ v.0, and_both (scalar c) (all scalar v.0) e v.1, ap (λ (l : List ℕ). l ++ t) (sym p) ∙ ap (λ (l : List ℕ). encode c ++ l) v.2)

valid1 : (a : ℕ) (t : List ℕ) → a ≤ 0x7F → Valid t → Valid (a ∷ t)
valid1 a t h = valid_char a (a ∷ []) t (scalar_low a (omega arith)) (simp (le-leb a 0x7F h))

valid2 : (a b : ℕ) (t : List ℕ) → utf8_2 a b ≡ true → Valid t → Valid (a ∷ b ∷ t)
valid2 a b t e =
    let f = between 0xC2 0xDF a (and_left (within 0xC2 0xDF a) (utf8_tail b) e) in
    let g = between 0x80 0xBF b (and_right (within 0xC2 0xDF a) (utf8_tail b) e) in
    let c = (a - 0xC0) * 64 + (b - 0x80) in
    let x : 0xC0 + c / 64 ≡ a = omega arith in
    let y : 0x80 + c % 64 ≡ b = omega arith in
    let z : encode c ≡ encode2 c = simp (lt-leb c 0x7F (omega arith), le-leb c 0x7FF (omega arith)) in
    valid_char c (a ∷ b ∷ []) t (scalar_low c (omega arith)) (z ∙ rw (x, y) refl)

module _ (a b d : ℕ) (t : List ℕ) where
  code3 : ℕ
  code3 = (a - 0xE0) * 4096 + (b - 0x80) * 64 + (d - 0x80)

  bytes3 : 0xE0 ≤ a → a ≤ 0xEF → utf8_tail b ≡ true → utf8_tail d ≡ true → 0x7FF < code3 → scalar code3 ≡ true → Valid t → Valid (a ∷ b ∷ d ∷ t)
  unfolding code3
  bytes3 g h k l m e =
      let f = between 0x80 0xBF b k in
      let i = between 0x80 0xBF d l in
      let c = (a - 0xE0) * 4096 + (b - 0x80) * 64 + (d - 0x80) in
      let x : 0xE0 + c / 4096 ≡ a = omega arith in
      let y : 0x80 + c / 64 % 64 ≡ b = omega arith in
      let z : 0x80 + c % 64 ≡ d = omega arith in
      let w : encode c ≡ encode3 c = simp (lt-leb c 0x7F (omega arith), lt-leb c 0x7FF m, le-leb c 0xFFFF (omega arith)) in
      valid_char c (a ∷ b ∷ d ∷ []) t e (w ∙ rw (x, y, z) refl)

  -- an alternative of UTF8-3 whose first byte is one, or is between two
  alt3 : (lo hi : ℕ) → 0xE0 ≤ a → a ≤ 0xEF → within lo hi b ≡ true → 0x80 ≤ lo → hi ≤ 0xBF → utf8_tail d ≡ true
      → (lo ≤ b → b ≤ hi → 0x80 ≤ d → d ≤ 0xBF → (0x7FF < code3) × (scalar code3 ≡ true)) → Valid t → Valid (a ∷ b ∷ d ∷ t)
  alt3 lo hi g h k p q l r =
      let f = between lo hi b k in
      let i = between 0x80 0xBF d l in
      let j = r f.0 f.1 i.0 i.1 in
      bytes3 g h (inside 0x80 0xBF b (omega arith) (omega arith)) l j.0 j.1

  valid3 : utf8_3 a b d ≡ true → Valid t → Valid (a ∷ b ∷ d ∷ t)
  unfolding code3
  valid3 e v =
      let u1 = eqb a 0xE0 && within 0xA0 0xBF b && utf8_tail d in
      let u2 = within 0xE1 0xEC a && utf8_tail b && utf8_tail d in
      let u3 = eqb a 0xED && within 0x80 0x9F b && utf8_tail d in
      let u4 = within 0xEE 0xEF a && utf8_tail b && utf8_tail d in
      let c = (a - 0xE0) * 4096 + (b - 0x80) * 64 + (d - 0x80) in
      by_or (u1 || u2 || u3) u4 e
      (λ e. by_or (u1 || u2) u3 e
      (λ e. by_or u1 u2 e
      (λ e.
      let m = and_left (eqb a 0xE0 && within 0xA0 0xBF b) (utf8_tail d) e in
      let n = eqb-true a 0xE0 (and_left (eqb a 0xE0) (within 0xA0 0xBF b) m) in
      alt3 0xA0 0xBF (omega arith) (omega arith) (and_right (eqb a 0xE0) (within 0xA0 0xBF b) m) (omega arith) (omega arith)
      (and_right (eqb a 0xE0 && within 0xA0 0xBF b) (utf8_tail d) e)
      (λ p q r s. (omega arith, scalar_low c (omega arith))) v)
      (λ e.
      let m = and_left (within 0xE1 0xEC a && utf8_tail b) (utf8_tail d) e in
      let n = between 0xE1 0xEC a (and_left (within 0xE1 0xEC a) (utf8_tail b) m) in
      alt3 0x80 0xBF (omega arith) (omega arith) (and_right (within 0xE1 0xEC a) (utf8_tail b) m) (omega arith) (omega arith)
      (and_right (within 0xE1 0xEC a && utf8_tail b) (utf8_tail d) e)
      (λ p q r s. (omega arith, scalar_low c (omega arith))) v))
      (λ e.
      let m = and_left (eqb a 0xED && within 0x80 0x9F b) (utf8_tail d) e in
      let n = eqb-true a 0xED (and_left (eqb a 0xED) (within 0x80 0x9F b) m) in
      alt3 0x80 0x9F (omega arith) (omega arith) (and_right (eqb a 0xED) (within 0x80 0x9F b) m) (omega arith) (omega arith)
      (and_right (eqb a 0xED && within 0x80 0x9F b) (utf8_tail d) e)
      (λ p q r s. (omega arith, scalar_low c (omega arith))) v))
      (λ e.
      let m = and_left (within 0xEE 0xEF a && utf8_tail b) (utf8_tail d) e in
      let n = between 0xEE 0xEF a (and_left (within 0xEE 0xEF a) (utf8_tail b) m) in
      alt3 0x80 0xBF (omega arith) (omega arith) (and_right (within 0xEE 0xEF a) (utf8_tail b) m) (omega arith) (omega arith)
      (and_right (within 0xEE 0xEF a && utf8_tail b) (utf8_tail d) e)
      (λ p q r s. (omega arith, scalar_high c (omega arith) (omega arith))) v)

module _ (a b d f : ℕ) (t : List ℕ) where
  code4 : ℕ
  code4 = (a - 0xF0) * 262144 + (b - 0x80) * 4096 + (d - 0x80) * 64 + (f - 0x80)

  alt4 : (lo hi : ℕ) → 0xF0 ≤ a → a ≤ 0xF4 → within lo hi b ≡ true → 0x80 ≤ lo → hi ≤ 0xBF → utf8_tail d ≡ true → utf8_tail f ≡ true
      → (lo ≤ b → b ≤ hi → 0x80 ≤ d → d ≤ 0xBF → 0x80 ≤ f → f ≤ 0xBF → (0xFFFF < code4) × (code4 ≤ 0x10FFFF)) → Valid t → Valid (a ∷ b ∷ d ∷ f ∷ t)
  unfolding code4
  alt4 lo hi g h k p q l m r =
      let i = between lo hi b k in
      let j = between 0x80 0xBF d l in
      let n = between 0x80 0xBF f m in
      let o = r i.0 i.1 j.0 j.1 n.0 n.1 in
      let c = (a - 0xF0) * 262144 + (b - 0x80) * 4096 + (d - 0x80) * 64 + (f - 0x80) in
      let x : 0xF0 + c / 262144 ≡ a = omega arith in
      let y : 0x80 + c / 4096 % 64 ≡ b = omega arith in
      let z : 0x80 + c / 64 % 64 ≡ d = omega arith in
      let v : 0x80 + c % 64 ≡ f = omega arith in
      let w : encode c ≡ encode4 c = simp (lt-leb c 0x7F (omega arith), lt-leb c 0x7FF (omega arith), lt-leb c 0xFFFF o.0) in
      valid_char c (a ∷ b ∷ d ∷ f ∷ []) t (scalar_high c (omega arith) o.1) (w ∙ rw (x, y, z, v) refl)

  valid4 : utf8_4 a b d f ≡ true → Valid t → Valid (a ∷ b ∷ d ∷ f ∷ t)
  unfolding code4
  valid4 e v =
      let u1 = eqb a 0xF0 && within 0x90 0xBF b && utf8_tail d && utf8_tail f in
      let u2 = within 0xF1 0xF3 a && utf8_tail b && utf8_tail d && utf8_tail f in
      let u3 = eqb a 0xF4 && within 0x80 0x8F b && utf8_tail d && utf8_tail f in
      by_or (u1 || u2) u3 e
      (λ e. by_or u1 u2 e
      (λ e.
      let l = and_left (eqb a 0xF0 && within 0x90 0xBF b && utf8_tail d) (utf8_tail f) e in
      let m = and_left (eqb a 0xF0 && within 0x90 0xBF b) (utf8_tail d) l in
      let n = eqb-true a 0xF0 (and_left (eqb a 0xF0) (within 0x90 0xBF b) m) in
      alt4 0x90 0xBF (omega arith) (omega arith) (and_right (eqb a 0xF0) (within 0x90 0xBF b) m) (omega arith) (omega arith)
      (and_right (eqb a 0xF0 && within 0x90 0xBF b) (utf8_tail d) l) (and_right (eqb a 0xF0 && within 0x90 0xBF b && utf8_tail d) (utf8_tail f) e)
      (λ p q r s x y. (omega arith, omega arith)) v)
      (λ e.
      let l = and_left (within 0xF1 0xF3 a && utf8_tail b && utf8_tail d) (utf8_tail f) e in
      let m = and_left (within 0xF1 0xF3 a && utf8_tail b) (utf8_tail d) l in
      let n = between 0xF1 0xF3 a (and_left (within 0xF1 0xF3 a) (utf8_tail b) m) in
      alt4 0x80 0xBF (omega arith) (omega arith) (and_right (within 0xF1 0xF3 a) (utf8_tail b) m) (omega arith) (omega arith)
      (and_right (within 0xF1 0xF3 a && utf8_tail b) (utf8_tail d) l) (and_right (within 0xF1 0xF3 a && utf8_tail b && utf8_tail d) (utf8_tail f) e)
      (λ p q r s x y. (omega arith, omega arith)) v))
      (λ e.
      let l = and_left (eqb a 0xF4 && within 0x80 0x8F b && utf8_tail d) (utf8_tail f) e in
      let m = and_left (eqb a 0xF4 && within 0x80 0x8F b) (utf8_tail d) l in
      let n = eqb-true a 0xF4 (and_left (eqb a 0xF4) (within 0x80 0x8F b) m) in
      alt4 0x80 0x8F (omega arith) (omega arith) (and_right (eqb a 0xF4) (within 0x80 0x8F b) m) (omega arith) (omega arith)
      (and_right (eqb a 0xF4 && within 0x80 0x8F b) (utf8_tail d) l) (and_right (eqb a 0xF4 && within 0x80 0x8F b && utf8_tail d) (utf8_tail f) e)
      (λ p q r s x y. (omega arith, omega arith)) v)

-- what is UTF-8 is encoded
mutual
  pub complete : (s : List ℕ) → utf8 s ≡ true → Valid s
  complete [] e = ([], refl, refl)
  complete (a ∷ s) e = by_cond (leb a 0x7F) (utf8 s) (after a s) (sym (utf8_cons a s) ∙ e) (λ p q. valid1 a s (leb-true a 0x7F p) (complete s q)) (λ _ q. complete1 s a q)

  complete1 : (s : List ℕ) (a : ℕ) → after a s ≡ true → Valid (a ∷ s)
  complete1 [] a e = false_true e
  complete1 (b ∷ s) a e = by_cond (utf8_2 a b) (utf8 s) (after2 a b s) (sym (after_cons a b s) ∙ e) (λ p q. valid2 a b s p (complete s q)) (λ _ q. complete2 s a b q)

  complete2 : (s : List ℕ) (a b : ℕ) → after2 a b s ≡ true → Valid (a ∷ b ∷ s)
  complete2 [] a b e = false_true e
  complete2 (c ∷ s) a b e = by_cond (utf8_3 a b c) (utf8 s) (after3 a b c s) (sym (after2_cons a b c s) ∙ e) (λ p q. valid3 a b c s p (complete s q)) (λ _ q. complete3 s a b c q)

  complete3 : (s : List ℕ) (a b c : ℕ) → after3 a b c s ≡ true → Valid (a ∷ b ∷ c ∷ s)
  complete3 [] a b c e = false_true e
  complete3 (d ∷ s) a b c e = by_cond (utf8_4 a b c d) (utf8 s) false (sym (after3_cons a b c d s) ∙ e) (λ p q. valid4 a b c d s p (complete s q)) (λ _ q. false_true q)

pub exact : (s : List ℕ) → Valid s → utf8 s ≡ true
exact s v = rw v.2 (sound v.0 v.1)

-- UTF-8 followed by UTF-8 is UTF-8, and by anything else is not
pub append : (s t : List ℕ) → utf8 s ≡ true → utf8 (s ++ t) ≡ utf8 t
append s t e = let v = complete s e in ap (λ (l : List ℕ). utf8 (l ++ t)) v.2 ∙ before v.0 t v.1
