-- What trimming leaves is a part of the text: where it stands.
use Prim.Native.Nat.{ℕ}
use mathlib.Core.Path.{◌≡◌, refl, sym, ap, ap₂, ◌∙◌}
use mathlib.Core.List.{List, [], ◌∷◌, ◌++◌, reverse, reverse-append, reverse-reverse}
use mathlib.Core.Bool.{Bool}
use native.Mathlib.Omega.{arith}
use lib.ListN.{length, take, drop, length-append}
use lib.Seq.{take_at, drop_at}
use Rattle.base.proofs.Tests.{by_bool}
use Rattle.trim.specs.Trim.{white1, white2, white3, trimmed_by, after1, after2, start_trimmed, back, end_trimmed, trimmed, leading_blanks}
use Rattle.trim.specs.Code.Trims.{back2, back3}

-- what was passed, and what is left
abbrev Left : List ℕ → List ℕ → Type 0
Left s t = (p : List ℕ) × (s ≡ p ++ t)

longer : (a : ℕ) {s t : List ℕ} → Left s t → Left (a ∷ s) t
longer a l = (a ∷ l.0, ap (λ (s : List ℕ). a ∷ s) l.1)

module _ (two : ℕ → ℕ → Bool) (three : ℕ → ℕ → ℕ → Bool) where
  mutual
    left : (s : List ℕ) → Left s (trimmed_by two three s)
    left [] = ([], refl)
    left (a ∷ s) = by_bool (white1 a) (λ e. rw (e, trimmed_by) (longer a (left s))) (λ e. rw (e, trimmed_by) (left1 s a))

    left1 : (s : List ℕ) (a : ℕ) → Left (a ∷ s) (after1 two three a s)
    left1 [] a = ([], refl)
    left1 (b ∷ s) a = by_bool (two a b) (λ e. rw (e, after1) (longer a (longer b (left s)))) (λ e. rw (e, after1) (left2 s a b))

    left2 : (s : List ℕ) (a b : ℕ) → Left (a ∷ b ∷ s) (after2 two three a b s)
    left2 [] a b = ([], refl)
    left2 (c ∷ s) a b =
        by_bool (three a b c)
        (λ e. rw (e, after2) (longer a (longer b (longer c (left s)))))
        (λ e. rw (e, after2) ([], refl))

pub end_start : (s : List ℕ) → (p : List ℕ) × (s ≡ end_trimmed s ++ p)
end_start s =
    let l = left back2 back3 (reverse s) in
    (reverse l.0, sym (reverse-reverse s) ∙ ap reverse l.1 ∙ reverse-append l.0 (back (reverse s)))

-- the text from the White_Space passed on; the start of the text; and both
pub start_place : (s : List ℕ) → start_trimmed s ≡ drop (leading_blanks s) s
start_place s =
    let l = left white2 white3 s in
    let t = start_trimmed s in
    let n : leading_blanks s ≡ length l.0 = omega (arith, ap length l.1, length-append l.0 t) in
    sym (ap₂ drop n l.1 ∙ drop_at l.0 t (length l.0) refl)

pub end_place : (s : List ℕ) → end_trimmed s ≡ take (length (end_trimmed s)) s
end_place s =
    let l = end_start s in
    let t = end_trimmed s in
    sym (ap (take (length t)) l.1 ∙ take_at t l.0 (length t) refl)

pub trimmed_place_lem : (s : List ℕ) → trimmed s ≡ take (length (trimmed s)) (drop (leading_blanks s) s)
trimmed_place_lem s = end_place (start_trimmed s) ∙ ap (take (length (trimmed s))) (start_place s)
