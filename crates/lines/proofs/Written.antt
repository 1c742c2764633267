-- Laws of written text: a line, a line feed, and what follows.
use Prim.Native.Nat.{ℕ}
use mathlib.Core.Path.{◌≡◌, refl, sym, ap, ◌∙◌}
use mathlib.Core.List.{List, [], ◌∷◌, ◌++◌}
use mathlib.Core.Bool.{true}
use borrow.Author.Tests.{ne_eqb}
use Rattle.base.specs.Lists.{is_not}
use Rattle.base.proofs.Tests.{by_eqb, false_true}
use Rattle.base.proofs.Lists.{all_behind}
use Rattle.lines.specs.Lines.{front, lines, feed_free}
use Rattle.lines.specs.Code.Returns.{less_return}
use Rattle.lines.proofs.Laws.{lines_other, no_return, no_feed}

pub free_cons : (a : ℕ) (x : List ℕ) → (a ≡ 10 → ⊥) → feed_free (a ∷ x) ≡ feed_free x
free_cons a x h = simp (ne_eqb a 10 h)

-- what a text without a line feed starts with
free_first : (a : ℕ) (x : List ℕ) → feed_free (a ∷ x) ≡ true → (a ≡ 10 → ⊥) × (feed_free x ≡ true)
free_first a x e = by_eqb a 10 (λ h. false_true (sym (rw h refl) ∙ e)) (λ h. (h, sym (free_cons a x h) ∙ e))

pub free_append : (x y : List ℕ) → feed_free x ≡ true → feed_free (x ++ y) ≡ feed_free y
free_append x y e = all_behind (is_not 10) x y e

-- the lines of x, a line feed and y
pub line_then : (x y : List ℕ) → feed_free x ≡ true → lines (x ++ 10 ∷ y) ≡ less_return x ∷ lines y
line_then [] y e = refl
line_then (a ∷ []) y e =
    let h = (free_first a [] e).0 in
    by_eqb a 13 (λ r. rw r refl)
    (λ r. lines_other a (10 ∷ y) h (no_return a (10 ∷ y) r) ∙ ap (λ (l : List ℕ). l ∷ lines y) (sym (kept r)))
  where
    kept : (a ≡ 13 → ⊥) → less_return (a ∷ []) ≡ a ∷ []
    kept r = rw (ne_eqb a 13 r, less_return)
line_then (a ∷ b ∷ x) y e =
    let f = free_first a (b ∷ x) e in
    lines_other a (b ∷ x ++ 10 ∷ y) f.0 (no_feed a b (x ++ 10 ∷ y) (free_first b x f.1).0) ∙ ap (front a) (line_then (b ∷ x) y f.1)
