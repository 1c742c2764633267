-- The table while it is filled: p walks over itself.
use Prim.Native.Nat.{ℕ, ◌+◌, ◌-◌, ◌<◌, ◌≤◌}
use mathlib.Core.Path.{◌≡◌, refl, ◌∙◌}
use mathlib.Core.List.{List}
use native.Mathlib.Omega.{arith}
use lib.ListN.{length, get_or, set, length-set}
use lib.Seq.{get_or-set_same, get_or-set_other}
use Rattle.base.proofs.Tests.{by_eqb, by_leb}
use Rattle.kmp.specs.Code.Shift.{Agrees, Shift, Table}
use Rattle.kmp.proofs.Shifts.{shorter, empty, longer, differs, shifted, between}

-- the first j bytes of p stand at its place c, and at no earlier place but 0 does p agree beyond them
pub record Filling (p t : List ℕ) (c j : ℕ) : Type 0 where
  pub some : 0 < c
  pub inside : c + j ≤ length p
  pub here : Agrees p p c (c + j)
  pub first : (d : ℕ) → 0 < d → d < c → Agrees p p d (c + j + 1) → ⊥
  pub table : Table p t (c + j)

-- one shift more
put : (p t : List ℕ) (n i e : ℕ) → Table p t n → i ≡ n + 1 → i < 65536 → Shift p i e → Table p (set t i e) i
put p t n i e a f h s = record {
  size = length-set t i e ∙ a.size;
  shift = λ j l g.
      by_eqb j i
      (λ q. rw (q, get_or-set_same t i e 0 (omega (arith, a.size))) s)
      (λ q. rw (get_or-set_other t i j e 0 q) (a.shift j l (omega arith)));
}

up_to : (p t : List ℕ) (n m : ℕ) → n ≡ m → Table p t n → Table p t m
up_to p t n m e a = rw e at a

module _ (p t : List ℕ) (c j : ℕ) (f : Filling p t c j) (in_p : c + j < length p) (short : length p < 65536) where
  pub matched : (i : ℕ) → i ≡ j + 1 → get_or p (c + j) 0 ≡ get_or p j 0 → Filling p (set t (c + i) c) c i
  matched i e q =
      let a : Agrees p p c (c + i) = longer p p c j (c + j) (c + i) refl (omega arith) q f.here in
      record {
        some = f.some;
        inside = omega arith;
        here = a;
        first = λ d l g b. f.first d l g (shorter p p d (c + j + 1) (c + i + 1) (omega arith) b);
        table = put p t (c + j) (c + i) c f.table (omega arith) (omega arith)
            (record { some = f.some; most = omega arith; agrees = a; least = λ d l g b. f.first d l g (shorter p p d (c + j + 1) (c + i) (omega arith) b) });
      }

  -- where the next byte differs, p agrees beyond the first j bytes at no place up to c
  not_here : (get_or p (c + j) 0 ≡ get_or p j 0 → ⊥) → (d : ℕ) → 0 < d → d ≤ c → Agrees p p d (c + j + 1) → ⊥
  not_here q d l g b =
      by_eqb d c
      (λ e. differs p p c j (c + j) (c + j + 1) refl refl q (rw e at b))
      (λ e. f.first d l (omega arith) b)

  pub moved : (get_or p (c + j) 0 ≡ get_or p j 0 → ⊥) → j ≡ 0 → Filling p (set t (c + 1) (c + 1)) (c + 1) j
  moved q z =
      record {
        some = omega arith;
        inside = omega arith;
        here = empty p p (c + 1) (c + 1 + j) (omega arith);
        first = λ d l g b. not_here q d l (omega arith) (shorter p p d (c + j + 1) (c + 1 + j + 1) (omega arith) b);
        table =
            up_to p (set t (c + 1) (c + 1)) (c + 1) (c + 1 + j) (omega arith)
            (put p t (c + j) (c + 1) (c + 1) f.table (omega arith) (omega arith)
            (record { some = omega arith; most = omega arith; agrees = empty p p (c + 1) (c + 1) (omega arith); least = λ d l g b. not_here q d l (omega arith) (shorter p p d (c + j + 1) (c + 1) (omega arith) b) }));
      }

  pub shift_of : 0 < j → Shift p j (get_or t j 0)
  shift_of l = f.table.shift j l (omega arith)

  pub slid : (e : ℕ) → (get_or p (c + j) 0 ≡ get_or p j 0 → ⊥) → Shift p j e → Filling p t (c + e) (j - e)
  slid e q s =
      let y : c + j ≡ c + e + (j - e) = omega arith in
      record {
        some = omega arith;
        inside = omega arith;
        here = rw y at (shifted p p c j e f.here s);
        first = λ d l g b.
            by_leb d c
            (λ h. not_here q d l h (shorter p p d (c + j + 1) (c + e + (j - e) + 1) (omega arith) b))
            (λ h.
            let x : d ≡ c + (d - c) = omega arith in
            between p p c j e f.here s (d - c) (omega arith) (omega arith) (rw x at (shorter p p d (c + j) (c + e + (j - e) + 1) (omega arith) b)));
        table = rw y at f.table;
      }
