-- Where a trimmed text stands in its text.
use Prim.Native.Nat.{ℕ, ◌+◌, ◌≤◌}
use mathlib.Core.Path.{◌≡◌, refl, sym, ap, ◌∙◌}
use mathlib.Core.List.{List, [], ◌∷◌, ◌++◌, reverse, reverse-reverse, reverse-append}
use mathlib.Core.Bool.{Bool}
use native.Mathlib.Omega.{arith}
use lib.ListN.{length, take, drop, length-append}
use lib.Seq.{take_at, drop_at}
use Rattle.base.proofs.Tests.{by_bool}
use Rattle.trim.specs.Trim.{leading_blanks, white1, white2, white3, trimmed_by, after1, after2, start_trimmed, back, end_trimmed, trimmed}
use Rattle.trim.specs.Code.Trims.{back2, back3}
use Rattle.trim.proofs.Laws.{start_trimmed-length, end_trimmed-length}

-- a text ends in another
record Ends (s t : List ℕ) : Type 0 where
  cut : List ℕ
  is : s ≡ cut ++ t

ends_all : (s : List ℕ) → Ends s s
ends_all s = record { cut = []; is = refl }

ends_more : (a : ℕ) {s t : List ℕ} → Ends s t → Ends (a ∷ s) t
ends_more a e = record { cut = a ∷ e.cut; is = ap (λ (r : List ℕ). a ∷ r) e.is }

module _ (two : ℕ → ℕ → Bool) (three : ℕ → ℕ → ℕ → Bool) where
  mutual
    ends : (s : List ℕ) → Ends s (trimmed_by two three s)
    ends [] = ends_all []
    ends (a ∷ s) =
        by_bool (white1 a)
        (λ e. rw (e, trimmed_by) (ends_more a (ends s)))
        (λ e. rw (e, trimmed_by) (ends1 s a))

    ends1 : (s : List ℕ) (a : ℕ) → Ends (a ∷ s) (after1 two three a s)
    ends1 [] a = ends_all (a ∷ [])
    ends1 (b ∷ s) a =
        by_bool (two a b)
        (λ e. rw (e, after1) (ends_more a (ends_more b (ends s))))
        (λ e. rw (e, after1) (ends2 s a b))

    ends2 : (s : List ℕ) (a b : ℕ) → Ends (a ∷ b ∷ s) (after2 two three a b s)
    ends2 [] a b = ends_all (a ∷ b ∷ [])
    ends2 (c ∷ s) a b =
        by_bool (three a b c)
        (λ e. rw (e, after2) (ends_more a (ends_more b (ends_more c (ends s)))))
        (λ e. rw (e, after2) (ends_all (a ∷ b ∷ c ∷ s)))

pub start_place : (s : List ℕ) → start_trimmed s ≡ drop (leading_blanks s) s
start_place s =
    let e = ends white2 white3 s in
    let n : length e.cut ≡ leading_blanks s = omega (arith, simp length-append at (ap length e.is)) in
    sym (ap (drop (leading_blanks s)) e.is ∙ drop_at e.cut (start_trimmed s) (leading_blanks s) n)

pub end_place : (s : List ℕ) → end_trimmed s ≡ take (length (end_trimmed s)) s
end_place s =
    let e = ends back2 back3 (reverse s) in
    let p : s ≡ end_trimmed s ++ reverse e.cut = sym (reverse-reverse s) ∙ ap reverse e.is ∙ reverse-append e.cut (back (reverse s)) in
    sym (ap (take (length (end_trimmed s))) p ∙ take_at (end_trimmed s) (reverse e.cut) (length (end_trimmed s)) refl)

pub trimmed_place_lem : (s : List ℕ) → trimmed s ≡ take (length (trimmed s)) (drop (leading_blanks s) s)
trimmed_place_lem s = end_place (start_trimmed s) ∙ ap (take (length (trimmed s))) (start_place s)

pub trimmed_fits : (s : List ℕ) → leading_blanks s + length (trimmed s) ≤ length s
trimmed_fits s = omega (arith, start_trimmed-length s, end_trimmed-length (start_trimmed s))
