-- Laws of cutting: the text before a byte, as it is searched for, and the pieces between commas.
use Rattle.std.specs.Prelude.{Option, Some, None, unwrap_or}
use Prim.Native.Nat.{ℕ, suc, ◌+◌, ◌<◌, ◌≤◌}
use mathlib.Core.Path.{◌≡◌, refl, sym, ap, ◌∙◌}
use mathlib.Core.List.{List, [], ◌∷◌}
use borrow.Author.Tests.{ne_eqb, eq-eqb}
use native.Mathlib.Omega.{arith}
use lib.ListN.{length, take, drop, length-drop}
use Rattle.base.specs.Lists.{is_not}
use Rattle.base.proofs.Tests.{by_eqb, by_leb}
use Rattle.base.proofs.Lists.{length-take_while, take-take_while}
use Rattle.search.specs.First.{first_from, first_at}
use Rattle.search.proofs.Prefix.{same, other}
use Rattle.search.proofs.Laws.{from_hit, from_miss, within}
use Rattle.source.specs.Parameters.{front, pieces}
use Rattle.source.specs.Code.Cursor.{before}

module _ (b a : ℕ) (s : List ℕ) where
  before_here : a ≡ b → before b (a ∷ s) ≡ []
  before_here e = simp (eq-eqb a b e)

  before_more : (a ≡ b → ⊥) → before b (a ∷ s) ≡ a ∷ before b s
  before_more h = simp (ne_eqb a b h)

module _ (b : ℕ) where
  pub before-length : (s : List ℕ) → length (before b s) ≤ length s
  before-length s = length-take_while (is_not b) s

  pub before_starts : (s : List ℕ) → before b s ≡ take (length (before b s)) s
  before_starts s = sym (take-take_while (is_not b) s)

  -- where the search finds the byte, or not
  search_here : (n : ℕ) (s : List ℕ) → length (before b s) < length s → first_from n (b ∷ []) s ≡ Some (n + length (before b s))
  search_here n [] l = absurd (omega arith)
  search_here n (a ∷ s) l =
      by_eqb a b
      (λ e. let z : n ≡ n + length (before b (a ∷ s)) = omega (arith, ap length (before_here b a s e)) in
      from_hit (b ∷ []) n (a ∷ s) (same b a [] s (sym e)) ∙ ap Some z)
      (λ h. let y = ap length (before_more b a s h) in
      let z : n + 1 + length (before b s) ≡ n + length (before b (a ∷ s)) = omega arith in
      from_miss (b ∷ []) n a s (other b a [] s (λ e. h (sym e))) ∙ search_here (n + 1) s (omega arith) ∙ ap Some z)

  search_none : (n : ℕ) (s : List ℕ) → length (before b s) ≡ length s → first_from n (b ∷ []) s ≡ None
  search_none n [] l = refl
  search_none n (a ∷ s) l =
      by_eqb a b
      (λ e. absurd (omega (arith, ap length (before_here b a s e))))
      (λ h. from_miss (b ∷ []) n a s (other b a [] s (λ e. h (sym e))) ∙ search_none (n + 1) s (omega (arith, ap length (before_more b a s h))))

-- where a text from a place on is cut
abbrev pub cut_at : ℕ → List ℕ → ℕ → ℕ
cut_at b s at = at + length (before b (drop at s))

module _ (b : ℕ) (s : List ℕ) (at : ℕ) (h : at ≤ length s) where
  pub cut_length : (at ≤ cut_at b s at) × (cut_at b s at ≤ length s)
  cut_length = let k = before-length b (drop at s) in (omega arith, omega (arith, length-drop at s))

  pub cut : unwrap_or (first_at (b ∷ []) s at) (length s) ≡ cut_at b s at
  cut =
      let n = length-drop at s in
      let k = before-length b (drop at s) in
      by_leb (suc (length (before b (drop at s)))) (length (drop at s))
      (λ l. ap (λ (x : Option ℕ). unwrap_or x (length s)) (within (b ∷ []) s at h ∙ search_here b at (drop at s) l))
      (λ l. ap (λ (x : Option ℕ). unwrap_or x (length s)) (within (b ∷ []) s at h ∙ search_none b at (drop at s) (omega arith)) ∙ omega arith)

-- the first piece, and those behind it
module _ (a : ℕ) (s : List ℕ) where
  pub pieces-comma : a ≡ 0x2C → pieces (a ∷ s) ≡ [] ∷ pieces s
  pieces-comma e = rw (eq-eqb a 0x2C e, pieces)

  pub pieces_other : (a ≡ 0x2C → ⊥) → pieces (a ∷ s) ≡ front a (pieces s)
  pieces_other h = rw (ne_eqb a 0x2C h, pieces)

pub pieces_one : (s : List ℕ) → length (before 0x2C s) ≡ length s → pieces s ≡ before 0x2C s ∷ []
pieces_one [] l = refl
pieces_one (a ∷ s) l =
    by_eqb a 0x2C
    (λ e. absurd (omega (arith, ap length (before_here 0x2C a s e))))
    (λ h. let y = before_more 0x2C a s h in
    pieces_other a s h ∙ ap (front a) (pieces_one s (omega (arith, ap length y))) ∙ ap (λ (p : List ℕ). p ∷ []) (sym y))

pub pieces_more : (s : List ℕ) → length (before 0x2C s) < length s → pieces s ≡ before 0x2C s ∷ pieces (drop (suc (length (before 0x2C s))) s)
pieces_more [] l = absurd (omega arith)
pieces_more (a ∷ s) l =
    by_eqb a 0x2C
    (λ e. let y = before_here 0x2C a s e in
    pieces-comma a s e ∙ ap (λ (p : List ℕ). p ∷ pieces (drop (suc (length p)) (a ∷ s))) (sym y))
    (λ h. let y = before_more 0x2C a s h in
    pieces_other a s h ∙ ap (front a) (pieces_more s (omega (arith, ap length y))) ∙ ap (λ (p : List ℕ). p ∷ pieces (drop (suc (length p)) (a ∷ s))) (sym y))
