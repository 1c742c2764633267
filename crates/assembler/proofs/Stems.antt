-- Whether a stem fits, test by test.
use Prim.Native.Nat.{ℕ, ◌<◌, ◌≤◌}
use mathlib.Core.Path.{◌≡◌, refl, sym, ap, ◌∙◌}
use mathlib.Core.List.{List, [], ◌∷◌}
use mathlib.Core.Bool.{Bool, true, false, not}
use native.Mathlib.Omega.{arith}
use borrow.Author.Tests.{lt-ltb, le-ltb, le-leb, lt-leb}
use lib.Dec.{eqb}
use lib.ListN.{length}
use Rattle.base.proofs.Tests.{false_true, by_bool, by_leb, by_eqb}
use Rattle.std.specs.List.{list_any}
use Rattle.utf8.specs.Utf8.{utf8}
use Rattle.lines.specs.Lines.{feed_free}
use Rattle.contract.specs.Output.{stem_fits}

pub stem_empty : (stem : List ℕ) → length stem ≡ 0 → false ≡ stem_fits stem
stem_empty stem e = sym (simp (le-ltb 0 (length stem) (omega arith)))

pub stem_long : (stem : List ℕ) → (length stem ≡ 0 → ⊥) → 255 < length stem → false ≡ stem_fits stem
stem_long stem e h = sym (simp (lt-ltb 0 (length stem) (omega arith), lt-leb (length stem) 255 h))

not_not : (b : Bool) → not (not b) ≡ b
not_not true = refl
not_not false = refl

-- a line feed is among the bytes, or is not
pub any_feed : (s : List ℕ) → list_any (λ y. eqb y 10) s ≡ not (feed_free s)
any_feed [] = refl
any_feed (b ∷ s) = let more = any_feed s in by_bool (eqb b 10) (λ e. simp e) (λ e. simp (e, more))

module _ (stem : List ℕ) (e : length stem ≡ 0 → ⊥) (h : length stem ≤ 255) where
  pub stem_bytes : utf8 stem ≡ false → false ≡ stem_fits stem
  stem_bytes u = sym (simp (lt-ltb 0 (length stem) (omega arith), le-leb (length stem) 255 h, u))

  pub stem_lines : {b : Bool} → utf8 stem ≡ true → b ≡ list_any (λ y. eqb y 10) stem → not b ≡ stem_fits stem
  stem_lines u c = simp (lt-ltb 0 (length stem) (omega arith), le-leb (length stem) 255 h, u) (ap not (c ∙ any_feed stem) ∙ not_not (feed_free stem))

pub stem_short : (stem : List ℕ) → stem_fits stem ≡ true → length stem ≤ 255
stem_short stem f =
    by_leb (length stem) 255 (λ h. h)
    (λ h. by_eqb (length stem) 0 (λ e. omega arith) (λ e. false_true (stem_long stem e h ∙ f)))
