-- Laws of agreement and of shifts.
use Prim.Native.Nat.{ℕ, ◌+◌, ◌<◌, ◌≤◌}
use mathlib.Core.Path.{◌≡◌, sym, ap, ◌∙◌}
use mathlib.Core.List.{List}
use native.Mathlib.Omega.{arith}
use lib.ListN.{get_or}
use Rattle.base.proofs.Tests.{by_eqb}
use Rattle.kmp.specs.Code.Shift.{Agrees, Shift}

module _ (p s : List ℕ) (c : ℕ) where
  -- up to an earlier end
  pub shorter : (m n : ℕ) → m ≤ n → Agrees p s c n → Agrees p s c m
  shorter m n h a k l = a k (omega arith)

  pub empty : (n : ℕ) → n ≤ c → Agrees p s c n
  empty n h k l = absurd (omega arith)

  module _ (j n m : ℕ) (e : n ≡ c + j) (f : m ≡ n + 1) where
    -- one byte more
    pub longer : get_or s n 0 ≡ get_or p j 0 → Agrees p s c n → Agrees p s c m
    longer q a k l =
        by_eqb k j
        (λ g. let i : c + k ≡ n = omega arith in ap (λ (x : ℕ). get_or s x 0) i ∙ q ∙ ap (λ (x : ℕ). get_or p x 0) (sym g))
        (λ g. a k (omega arith))

    -- another byte
    pub differs : (get_or s n 0 ≡ get_or p j 0 → ⊥) → Agrees p s c m → ⊥
    differs q a = q (ap (λ (x : ℕ). get_or s x 0) e ∙ a j (omega arith))

  -- the first j bytes of p stand at c, and e is their shift
  module _ (j e : ℕ) (here : Agrees p s c (c + j)) (shift : Shift p j e) where
    -- p agrees at the place that it is shifted to
    pub shifted : Agrees p s (c + e) (c + j)
    shifted k l =
        let i : c + e + k ≡ c + (e + k) = omega arith in
        ap (λ (x : ℕ). get_or s x 0) i ∙ here (e + k) (omega arith) ∙ shift.agrees k (omega arith)

    -- and at no place between
    pub between : (d : ℕ) → 0 < d → d < e → Agrees p s (c + d) (c + j) → ⊥
    between d h g a =
        shift.least d h g
        (λ k l.
        let i : c + (d + k) ≡ c + d + k = omega arith in
        sym (here (d + k) (omega arith)) ∙ ap (λ (x : ℕ). get_or s x 0) i ∙ a k (omega arith))
