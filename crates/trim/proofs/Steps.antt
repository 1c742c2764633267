-- A step from a text's end: what its last bytes say of the White_Space there.
use Prim.Native.Nat.{ℕ, ◌-◌, ◌≤◌}
use mathlib.Core.Path.{◌≡◌, sym, ap, ◌∙◌}
use mathlib.Core.List.{List, ◌∷◌, reverse}
use mathlib.Core.Bool.{true, false}
use native.Mathlib.Omega.{arith}
use lib.ListN.{length, get_or, take}
use lib.Seq.{take-length}
use Rattle.base.proofs.Parts.{reverse-take-suc}
use Rattle.trim.specs.Trim.{white1, white2, white3, back}
use Rattle.trim.specs.Code.Trims.{back2, back3}
use Rattle.trim.proofs.Laws.{yes2, yes3, no3, back_stays}

module _ (s : List ℕ) where
  last1 : 1 ≤ length s → reverse s ≡ get_or s (length s - 1) 0 ∷ reverse (take (length s - 1) s)
  last1 h = ap reverse (sym (take-length s)) ∙ reverse-take-suc s (length s) (length s - 1) (omega arith) (omega arith)

  last2 : 2 ≤ length s → reverse s ≡ get_or s (length s - 1) 0 ∷ get_or s (length s - 2) 0 ∷ reverse (take (length s - 2) s)
  last2 h = last1 (omega arith) ∙ ap (λ (t : List ℕ). get_or s (length s - 1) 0 ∷ t) (reverse-take-suc s (length s - 1) (length s - 2) (omega arith) (omega arith))

  last3 : 3 ≤ length s → reverse s ≡ get_or s (length s - 1) 0 ∷ get_or s (length s - 2) 0 ∷ get_or s (length s - 3) 0 ∷ reverse (take (length s - 3) s)
  last3 h = last2 (omega arith) ∙ ap (λ (t : List ℕ). get_or s (length s - 1) 0 ∷ get_or s (length s - 2) 0 ∷ t) (reverse-take-suc s (length s - 2) (length s - 3) (omega arith) (omega arith))

  module _ (w : white1 (get_or s (length s - 1) 0) ≡ false) where
    pub last_other : 1 ≤ length s → (0x80 ≤ get_or s (length s - 1) 0 → get_or s (length s - 1) 0 ≤ 0xBF → ⊥) → back (reverse s) ≡ reverse s
    last_other h f = rw (last1 h) (back_stays (get_or s (length s - 1) 0) (reverse (take (length s - 1) s)) w f)

    pub last_two : 2 ≤ length s → white2 (get_or s (length s - 2) 0) (get_or s (length s - 1) 0) ≡ true → back (reverse s) ≡ back (reverse (take (length s - 2) s))
    last_two h v = ap back (last2 h) ∙ yes2 back2 back3 (get_or s (length s - 1) 0) (get_or s (length s - 2) 0) (reverse (take (length s - 2) s)) w v

    module _ (v : white2 (get_or s (length s - 2) 0) (get_or s (length s - 1) 0) ≡ false) (h : 3 ≤ length s) where
      pub last_three : white3 (get_or s (length s - 3) 0) (get_or s (length s - 2) 0) (get_or s (length s - 1) 0) ≡ true → back (reverse s) ≡ back (reverse (take (length s - 3) s))
      last_three u = ap back (last3 h) ∙ yes3 back2 back3 (get_or s (length s - 1) 0) (get_or s (length s - 2) 0) (get_or s (length s - 3) 0) (reverse (take (length s - 3) s)) w v u

      pub last_none : white3 (get_or s (length s - 3) 0) (get_or s (length s - 2) 0) (get_or s (length s - 1) 0) ≡ false → back (reverse s) ≡ reverse s
      last_none u = rw (last3 h) (no3 back2 back3 (get_or s (length s - 1) 0) (get_or s (length s - 2) 0) (get_or s (length s - 3) 0) (reverse (take (length s - 3) s)) w v u)
