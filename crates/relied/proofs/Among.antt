-- Laws of numbers that are among some.
use Prim.Native.Nat.{ℕ}
use mathlib.Core.Path.{◌≡◌, sym, subst}
use mathlib.Core.List.{List, [], ◌∷◌}
use mathlib.Core.Bool.{Bool, true, ◌&&◌}
use borrow.Author.Tests.{eqb-true}
use lib.Dec.{eqb}
use Rattle.base.proofs.Tests.{and_left, and_right, by_or, false_true}
use Rattle.relied.specs.Numbers.{is_one_of, Among}

abbrev pub all_in : List ℕ → List ℕ → Bool
all_in [] ns = true
all_in (a ∷ ms) ns = is_one_of ns a && all_in ms ns

-- what is among some is among more
pub widen : (ms ns : List ℕ) (n : ℕ) → all_in ms ns ≡ true → Among ms n → Among ns n
widen [] ns n h e = false_true e
widen (a ∷ ms) ns n h e =
    by_or (eqb n a) (is_one_of ms n) e
    (λ q. subst (Among ns) (sym (eqb-true n a q)) (and_left (is_one_of ns a) (all_in ms ns) h))
    (λ q. widen ms ns n (and_right (is_one_of ns a) (all_in ms ns) h) q)
