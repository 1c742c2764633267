-- The promises of the parts of `is_utf8`.
use Prim.Native.Nat.{ℕ, zero, suc, ◌+◌, ◌<◌, ◌≤◌}
use mathlib.Core.Path.{◌≡◌, refl, sym, ap, ◌∙◌}
use mathlib.Core.List.{List, [], ◌∷◌}
use mathlib.Core.Bool.{Bool, true, false, cond}
use native.Mathlib.Omega.{arith}
use lib.ListN.{length, get_or, take, drop, length-drop}
use lib.Seq.{drop-drop}
use borrow.Author.Tests.{leb-true}
use Rattle.base.specs.Lists.{all}
use Rattle.base.proofs.Tests.{and_left, and_right}
use Rattle.base.specs.Code.Skips.{SkipsTo}
use Rattle.base.proofs.Bytes.{at1}
use Rattle.std.specs.Prelude.{None}
use Rattle.std.specs.Bool.{then_some}
use Rattle.utf8.specs.Utf8.{utf8, utf8_1}
use Rattle.utf8.specs.Code.From.{utf8_from, CharactersAt}
use Rattle.utf8.proofs.Lead.{one_is}

-- a character at a position, or none, where t is the text behind its first byte
module _ (s t : List ℕ) (at : ℕ) (h : at < length s) (e : t ≡ drop (at + 1) s) where
  here : drop at s ≡ get_or s at 0 ∷ t
  here = at1 s at h ∙ ap (λ r. get_or s at 0 ∷ r) (sym e)

  pub missed : utf8 (get_or s at 0 ∷ t) ≡ false → CharactersAt s at None
  missed p = ap utf8 here ∙ p

  -- n more bytes
  pub tested : (n : ℕ) (q : Bool) → utf8 (get_or s at 0 ∷ t) ≡ cond q (utf8 (drop n t)) false → n ≤ length t → CharactersAt s at (then_some q (n + 1))
  tested n true p g = (
    omega arith,
    (let m = ap length e in omega (arith, length-drop (at + 1) s)),
    ap utf8 here ∙ p ∙ ap (λ r. utf8 (drop n r)) e ∙ ap utf8 (drop-drop n (at + 1) s) ∙ ap (utf8_from s) (omega arith),
  )
  tested n false p g = missed p

-- bytes that are ASCII are skipped
ascii_front : (n : ℕ) (t : List ℕ) → n ≤ length t → all utf8_1 (take n t) ≡ true → utf8 t ≡ utf8 (drop n t)
ascii_front zero t h e = refl
ascii_front (suc n) [] h e = refl
ascii_front (suc n) (a ∷ t) h e =
    one_is a t (leb-true a 0x7F (and_left (utf8_1 a) _ e)) ∙ ascii_front n t (omega arith) (and_right (utf8_1 a) _ e)

pub ascii : (n : ℕ) (s : List ℕ) (at : ℕ) → at + n ≤ length s → all utf8_1 (take n (drop at s)) ≡ true → SkipsTo (utf8_from s) at (length s) (at + n)
ascii n s at h e = record {
  on = omega arith;
  within = h;
  same = ascii_front n (drop at s) (omega (arith, length-drop at s)) e ∙ ap utf8 (drop-drop n at s) ∙ ap (utf8_from s) (omega arith);
}
