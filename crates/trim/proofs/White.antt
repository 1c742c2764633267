-- The bytes of a White_Space character: what a test that holds says, and bytes at which none holds.
use Prim.Native.Nat.{ℕ, ◌<◌, ◌≤◌}
use mathlib.Core.Path.{◌≡◌}
use mathlib.Core.Bool.{Bool, true, false, ◌&&◌, ◌||◌}
use borrow.Author.Tests.{eqb-true}
use native.Mathlib.Omega.{arith}
use lib.Dec.{eqb}
use Rattle.base.specs.Range.{within}
use Rattle.base.proofs.Tests.{and_left, and_right, by_or, by_bool, between}
use Rattle.trim.specs.Trim.{white1, white2, white3}

pub by_white1 : {P : Type 0} (a : ℕ) → white1 a ≡ true → (0x09 ≤ a → a ≤ 0x0D → P) → (a ≡ 0x20 → P) → P
by_white1 a e f g =
    by_or (within 0x09 0x0D a) (eqb a 0x20) e
    (λ e. let b = between 0x09 0x0D a e in f b.0 b.1)
    (λ e. g (eqb-true a 0x20 e))

pub by_white2 : {P : Type 0} (a b : ℕ) → white2 a b ≡ true → (a ≡ 0xC2 → b ≡ 0x85 → P) → (a ≡ 0xC2 → b ≡ 0xA0 → P) → P
by_white2 a b e f g =
    let p = eqb-true a 0xC2 (and_left (eqb a 0xC2) (eqb b 0x85 || eqb b 0xA0) e) in
    by_or (eqb b 0x85) (eqb b 0xA0) (and_right (eqb a 0xC2) (eqb b 0x85 || eqb b 0xA0) e)
    (λ e. f p (eqb-true b 0x85 e))
    (λ e. g p (eqb-true b 0xA0 e))

pair : {P : Type 0} (a b k l : ℕ) (r : Bool) → (eqb a k && eqb b l && r) ≡ true → (a ≡ k → b ≡ l → r ≡ true → P) → P
pair a b k l r e f =
    let p = and_left (eqb a k && eqb b l) r e in
    f (eqb-true a k (and_left (eqb a k) (eqb b l) p)) (eqb-true b l (and_right (eqb a k) (eqb b l) p)) (and_right (eqb a k && eqb b l) r e)

pub by_white3 : {P : Type 0} (a b c : ℕ) → white3 a b c ≡ true
    → (a ≡ 0xE1 → b ≡ 0x9A → c ≡ 0x80 → P)
    → (a ≡ 0xE2 → b ≡ 0x80 → 0x80 ≤ c → c ≤ 0x8A → P)
    → (a ≡ 0xE2 → b ≡ 0x80 → 0xA8 ≤ c → c ≤ 0xA9 → P)
    → (a ≡ 0xE2 → b ≡ 0x80 → c ≡ 0xAF → P)
    → (a ≡ 0xE2 → b ≡ 0x81 → c ≡ 0x9F → P)
    → (a ≡ 0xE3 → b ≡ 0x80 → c ≡ 0x80 → P)
    → P
by_white3 a b c e f1 f2 f3 f4 f5 f6 =
    let r = within 0x80 0x8A c || within 0xA8 0xA9 c || eqb c 0xAF in
    let k1 = eqb a 0xE1 && eqb b 0x9A && eqb c 0x80 in
    let k2 = eqb a 0xE2 && eqb b 0x80 && r in
    let k3 = eqb a 0xE2 && eqb b 0x81 && eqb c 0x9F in
    let k4 = eqb a 0xE3 && eqb b 0x80 && eqb c 0x80 in
    by_or (k1 || k2 || k3) k4 e
    (λ e. by_or (k1 || k2) k3 e
    (λ e. by_or k1 k2 e
    (λ e. pair a b 0xE1 0x9A (eqb c 0x80) e (λ p q e. f1 p q (eqb-true c 0x80 e)))
    (λ e. pair a b 0xE2 0x80 r e
    (λ p q e. by_or (within 0x80 0x8A c || within 0xA8 0xA9 c) (eqb c 0xAF) e
    (λ e. by_or (within 0x80 0x8A c) (within 0xA8 0xA9 c) e
    (λ e. let m = between 0x80 0x8A c e in f2 p q m.0 m.1)
    (λ e. let m = between 0xA8 0xA9 c e in f3 p q m.0 m.1))
    (λ e. f4 p q (eqb-true c 0xAF e)))))
    (λ e. pair a b 0xE2 0x81 (eqb c 0x9F) e (λ p q e. f5 p q (eqb-true c 0x9F e))))
    (λ e. pair a b 0xE3 0x80 (eqb c 0x80) e (λ p q e. f6 p q (eqb-true c 0x80 e)))

refuted : (p : Bool) → (p ≡ true → ⊥) → p ≡ false
refuted p f = by_bool p (λ e. absurd (f e)) (λ e. e)

pub not1 : (a : ℕ) → 0x7F < a → white1 a ≡ false
not1 a h = refuted (white1 a) (λ e. by_white1 a e (λ p q. omega arith) (λ p. omega arith))

pub not2 : (a b : ℕ) → ((a ≡ 0xC2) × (0x80 ≤ b) × (b ≤ 0xBF) → ⊥) → white2 a b ≡ false
not2 a b h = refuted (white2 a b) (λ e. h (by_white2 a b e (λ p q. omega arith) (λ p q. omega arith)))

pub not3 : (a b c : ℕ) → ((0xE1 ≤ a) × (a ≤ 0xE3) × (0x80 ≤ b) × (b ≤ 0xBF) × (0x80 ≤ c) × (c ≤ 0xBF) → ⊥) → white3 a b c ≡ false
not3 a b c h =
    refuted (white3 a b c)
    (λ e. h
    (by_white3 a b c e (λ p q r. omega arith) (λ p q r s. omega arith) (λ p q r s. omega arith) (λ p q r. omega arith) (λ p q r. omega arith) (λ p q r. omega arith)))
