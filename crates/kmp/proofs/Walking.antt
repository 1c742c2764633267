-- The search while p walks over s.
use Rattle.std.specs.Prelude.{Some, None}
use Prim.Native.Nat.{ℕ, zero, suc, ◌+◌, ◌-◌, ◌<◌, ◌≤◌}
use mathlib.Core.Path.{◌≡◌, refl, sym, ap, ◌∙◌}
use mathlib.Core.List.{List}
use mathlib.Core.Bool.{true, false}
use borrow.Author.Tests.{eqb-true}
use native.Mathlib.Omega.{arith}
use lib.ListN.{length, get_or, drop, drop_of_length-le}
use Rattle.base.proofs.Tests.{by_bool, by_eqb}
use Rattle.search.specs.First.{prefix_of, first_at}
use Rattle.search.proofs.Prefix.{same_at, each}
use Rattle.search.proofs.Laws.{hit, miss, no_room}
use Rattle.kmp.specs.Code.Shift.{Agrees, Shift}
use Rattle.kmp.proofs.Shifts.{empty, longer, differs, shifted, between}

-- the first j bytes of p stand at the place c of s, and p stands at no place before c
pub record Walking (p s : List ℕ) (at c j : ℕ) : Type 0 where
  pub short : j < length p
  pub inside : c + j ≤ length s
  pub here : Agrees p s c (c + j)
  pub same : first_at p s at ≡ first_at p s c

module _ (p s : List ℕ) where
  -- where p agrees throughout, it stands
  stands : (c : ℕ) → c + length p ≤ length s → Agrees p s c (c + length p) → prefix_of p (drop c s) ≡ true
  stands c h a = go (length p) (omega arith) ∙ ap (λ (q : List ℕ). prefix_of q (drop (c + length p) s)) (drop_of_length-le p {i = length p} (omega arith))
    where
      go : (j : ℕ) → j ≤ length p → prefix_of p (drop c s) ≡ prefix_of (drop j p) (drop (c + j) s)
      go zero l = let e : c ≡ c + 0 = omega arith in ap (λ (k : ℕ). prefix_of p (drop k s)) e
      go (suc j) l =
          let e : j + 1 ≡ suc j = omega arith in
          go j (omega arith)
          ∙ same_at p s j (c + j) (c + suc j) (omega arith) (omega arith) (omega arith) (sym (a j (omega arith)))
          ∙ ap (λ (k : ℕ). prefix_of (drop k p) (drop (c + suc j) s)) e

  -- where p stands, it agrees
  agrees : (c n : ℕ) → n ≤ c + length p → prefix_of p (drop c s) ≡ true → Agrees p s c n
  agrees c n h e k l = eqb-true _ _ (each p s c k (c + k) e (omega arith) refl)

  nowhere : (c n : ℕ) → n ≤ c + length p → (Agrees p s c n → ⊥) → prefix_of p (drop c s) ≡ false
  nowhere c n h a = by_bool (prefix_of p (drop c s)) (λ e. absurd (a (agrees c n h e))) (λ e. e)

  -- p stands at none of e places
  pass : (c e : ℕ) → ((d : ℕ) → d < e → prefix_of p (drop (c + d) s) ≡ false) → first_at p s c ≡ first_at p s (c + e)
  pass c zero h = let z : c ≡ c + 0 = omega arith in ap (first_at p s) z
  pass c (suc e) h =
      let z : c + e + 1 ≡ c + suc e = omega arith in
      pass c e (λ d l. h d (omega arith)) ∙ miss p s (c + e) (h e (omega arith)) ∙ ap (first_at p s) z

  module _ (at c j : ℕ) (w : Walking p s at c j) where
    module _ (q : get_or s (c + j) 0 ≡ get_or p j 0) (in-s : c + j < length s) where
      one_more : (i : ℕ) → i ≡ j + 1 → Agrees p s c (c + i)
      one_more i e = longer p s c j (c + j) (c + i) refl (omega arith) q w.here

      pub found : j + 1 ≡ length p → first_at p s at ≡ Some c
      found e = w.same ∙ hit p s c (omega arith) (stands c (omega arith) (one_more (length p) (sym e)))

    module _ (q : get_or s (c + j) 0 ≡ get_or p j 0 → ⊥) (in-s : c + j < length s) where
      not_here : prefix_of p (drop c s) ≡ false
      not_here = nowhere c (c + j + 1) (omega arith) (differs p s c j (c + j) (c + j + 1) refl refl q)

      pub slid : (e : ℕ) → Shift p j e → Walking p s at (c + e) (j - e)
      slid e f =
          let y : c + j ≡ c + e + (j - e) = omega arith in
          record {
            short = omega arith;
            inside = omega arith;
            here = rw y at (shifted p s c j e w.here f);
            same = w.same ∙ pass c e (λ d l.
                by_eqb d 0
                (λ z. let x : c ≡ c + d = omega arith in rw x at not_here)
                (λ z. nowhere (c + d) (c + j) (omega arith) (between p s c j e w.here f d (omega arith) l)));
          }

    pub ended : length s ≤ c + j → first_at p s at ≡ None
    ended h = w.same ∙ no_room p s c (omega arith)
