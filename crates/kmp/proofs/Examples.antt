-- Worked examples of shifts.
use Prim.Native.Nat.{ℕ}
use mathlib.Core.Path.{◌≡◌, refl}
use mathlib.Core.List.{List, [], ◌∷◌}
use native.Mathlib.Omega.{arith}
use Rattle.base.proofs.Tests.{by_eqb}
use Rattle.kmp.specs.Code.Shift.{Shift}

abbrev a : ℕ
a = 0x61

abbrev b : ℕ
b = 0x62

abbrev p : List ℕ
p = a ∷ a ∷ b ∷ []

pub of_two : Shift p 2 1
of_two = record {
  some = omega arith;
  most = omega arith;
  agrees = λ k h. let z : k ≡ 0 = omega arith in rw z refl;
  least = λ d h g. absurd (omega arith);
}

pub of_three : Shift p 3 3
of_three = record {
  some = omega arith;
  most = omega arith;
  agrees = λ k h. absurd (omega arith);
  least = λ d h g n. by_eqb d 1
      (λ e. let z : ◌≡◌ {A = ℕ} b a = (rw e at n) 1 (omega arith) in omega arith)
      (λ e. let y : d ≡ 2 = omega arith in let z : ◌≡◌ {A = ℕ} b a = (rw y at n) 0 (omega arith) in omega arith);
}
