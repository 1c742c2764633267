-- What 13 asks of a text, byte by byte and by pairs of `=`.
use Prim.Native.Nat.{ℕ, ◌+◌, ◌<◌}
use mathlib.Core.Path.{◌≡◌, refl, sym, ap, ◌∙◌}
use mathlib.Core.List.{List, [], ◌∷◌, ◌++◌}
use mathlib.Core.Bool.{Bool, true, false, ◌&&◌}
use native.Mathlib.Omega.{arith}
use borrow.Author.Tests.{eqb-true}
use lib.Dec.{eqb}
use lib.ListN.{length, get_or, drop, drop_of_length-le}
use Rattle.base.specs.Lists.{all}
use Rattle.base.proofs.Tests.{false_true, by_bool, by_leb, and_left, and_right}
use Rattle.base.proofs.Lists.{passes_inside}
use Rattle.base.proofs.Parts.{drop_cons_at}
use Rattle.token.specs.Token.{allowed, paired}
use Rattle.token.specs.Code.Bytes.{allowed_byte}
use Rattle.token.proofs.Classes.{not_so}

-- no byte of a single test is a `=`
pub no_equals_lem : (a : ℕ) → allowed_byte a ≡ true → eqb a 61 ≡ false
no_equals_lem a e = not_so (eqb a 61) (λ q. let z : allowed_byte 61 ≡ true = ap allowed_byte (sym (eqb-true a 61 q)) ∙ e in false_true z)

pub allowed_other : (a : ℕ) (s : List ℕ) → eqb a 61 ≡ false → allowed (a ∷ s) ≡ (allowed_byte a && allowed s)
allowed_other a s e = rw (e, allowed)

pub allowed_equals : (a : ℕ) (s : List ℕ) → eqb a 61 ≡ true → allowed (a ∷ s) ≡ paired s
allowed_equals a s e = rw (e, allowed)

pub allowed_byte_lem : (a : ℕ) (s : List ℕ) → allowed_byte a ≡ true → allowed (a ∷ s) ≡ allowed s
allowed_byte_lem a s e = allowed_other a s (no_equals_lem a e) ∙ ap (λ (b : Bool). b && allowed s) e

pub allowed_bytes : (w s : List ℕ) → all allowed_byte w ≡ true → allowed (w ++ s) ≡ allowed s
allowed_bytes [] s e = refl
allowed_bytes (a ∷ w) s e =
    let more = allowed_bytes w s (and_right (allowed_byte a) (all allowed_byte w) e) in
    allowed_byte_lem a (w ++ s) (and_left (allowed_byte a) (all allowed_byte w) e) ∙ more

-- at an offset of a text
module _ (s : List ℕ) (i : ℕ) (h : i < length s) where
  here : allowed (drop i s) ≡ allowed (get_or s i 0 ∷ drop (i + 1) s)
  here = ap allowed (drop_cons_at s i (i + 1) h refl)

  pub one_more : allowed_byte (get_or s i 0) ≡ true → allowed (drop i s) ≡ allowed (drop (i + 1) s)
  one_more e = here ∙ allowed_byte_lem (get_or s i 0) (drop (i + 1) s) e

  pub pair_more : (eqb (get_or s i 0) 61 && eqb (get_or s (i + 1) 0) 61) ≡ true → (i + 1 < length s) × (allowed (drop i s) ≡ allowed (drop (i + 2) s))
  pair_more e =
      let f = and_right (eqb (get_or s i 0) 61) (eqb (get_or s (i + 1) 0) 61) e in
      let g = passes_inside (λ (a : ℕ). eqb a 61) refl s (i + 1) f in (
        g,
        here
            ∙ allowed_equals (get_or s i 0) (drop (i + 1) s) (and_left (eqb (get_or s i 0) 61) (eqb (get_or s (i + 1) 0) 61) e)
            ∙ ap paired (drop_cons_at s (i + 1) (i + 2) g (omega arith))
            ∙ ap (λ (b : Bool). b && allowed (drop (i + 2) s)) f,
      )

  unpaired : eqb (get_or s (i + 1) 0) 61 ≡ false → paired (drop (i + 1) s) ≡ false
  unpaired e =
      by_leb (length s) (i + 1)
      (λ g. ap paired (drop_of_length-le s g))
      (λ g. ap paired (drop_cons_at s (i + 1) (i + 2) g (omega arith)) ∙ ap (λ (b : Bool). b && allowed (drop (i + 2) s)) e)

  pub none_more : allowed_byte (get_or s i 0) ≡ false → (eqb (get_or s i 0) 61 && eqb (get_or s (i + 1) 0) 61) ≡ false → allowed (drop i s) ≡ false
  none_more e f =
      by_bool (eqb (get_or s i 0) 61)
      (λ p. here ∙ allowed_equals (get_or s i 0) (drop (i + 1) s) p ∙ unpaired (sym (ap (λ (b : Bool). b && eqb (get_or s (i + 1) 0) 61) p) ∙ f))
      (λ p. here ∙ allowed_other (get_or s i 0) (drop (i + 1) s) p ∙ ap (λ (b : Bool). b && allowed (drop (i + 1) s)) e)
