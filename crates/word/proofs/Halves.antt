-- Products of numbers that are cut into halves of 32 bits.
use Rattle.std.proofs.Common.{◌≡◌, ℕ, ◌+◌, ◌*◌, ◌/◌, ◌%◌, ◌^◌, sym, ◌∙◌, ap₂, mul_assoc, add-mul, mul-add, mul_right_comm, arith}
use native.Mathlib.Nat.{mul-mul-mul_comm}

-- a product by its halves
columns : (h l k m c : ℕ) → (h * c + l) * (k * c + m) ≡ h * k * (c * c) + (h * m * c + l * k * c) + l * m
columns h l k m c =
    let p : (h * c) * (k * c) ≡ h * k * (c * c) = mul-mul-mul_comm h c k c in
    let q : (h * c) * m ≡ h * m * c = mul_right_comm h c m in
    let r : l * (k * c) ≡ l * k * c = sym (mul_assoc l k c) in
    let s : (h * c + l) * (k * c + m) ≡ (h * c) * (k * c + m) + l * (k * c + m) = add-mul (h * c) l (k * c + m) in
    let t : (h * c) * (k * c + m) ≡ (h * c) * (k * c) + (h * c) * m = mul-add (h * c) (k * c) m in
    let u : l * (k * c + m) ≡ l * (k * c) + l * m = mul-add l (k * c) m in
    omega arith

-- modulo 2^64 the upper column is gone, and the cross products count by their lower halves
pub modulo : (a b : ℕ) (cross r : ℕ)
    → cross ≡ ((a / 0x1_0000_0000) * (b % 0x1_0000_0000) + (a % 0x1_0000_0000) * (b / 0x1_0000_0000)) % 2 ^ 64
    → r ≡ ((a % 0x1_0000_0000) * (b % 0x1_0000_0000) + cross % 0x1_0000_0000 * 0x1_0000_0000) % 2 ^ 64
    → r ≡ (a * b) % 2 ^ 64
modulo a b cross r p q =
    let h = a / 0x1_0000_0000 in
    let l = a % 0x1_0000_0000 in
    let k = b / 0x1_0000_0000 in
    let m = b % 0x1_0000_0000 in
    let x : h * 0x1_0000_0000 + l ≡ a = omega arith in
    let y : k * 0x1_0000_0000 + m ≡ b = omega arith in
    let z : a * b ≡ (h * 0x1_0000_0000 + l) * (k * 0x1_0000_0000 + m) = ap₂ ◌*◌ (sym x) (sym y) in
    word (a * b) (h * k) (h * m) (l * k) (l * m) cross r (z ∙ columns h l k m 0x1_0000_0000) p q
  where
    word : (n u v w x cross r : ℕ) → n ≡ u * (0x1_0000_0000 * 0x1_0000_0000) + (v * 0x1_0000_0000 + w * 0x1_0000_0000) + x
        → cross ≡ (v + w) % 2 ^ 64 → r ≡ (x + cross % 0x1_0000_0000 * 0x1_0000_0000) % 2 ^ 64 → r ≡ n % 2 ^ 64
    word n u v w x cross r e p q = omega arith
