-- A number by its case, and its values by their words.
use Prim.Native.Nat.{ℕ}
use mathlib.Core.Path.{◌≡◌, sym, ap, ◌∙◌}
use lib.ListN.{get_or}
use Rattle.numbered.specs.declared.Numbered.{Numbered}

pub told : {X : Type 0} (of : X → Numbered) {x y : X} {r : Numbered} → x ≡ y → r ≡ of y → r ≡ of x
told of e p = p ∙ sym (ap of e)

pub word_told : {m n : Numbered} (i : ℕ) → m ≡ n → get_or m.words i 0 ≡ get_or n.words i 0
word_told i e = ap (λ (x : Numbered). get_or x.words i 0) e
