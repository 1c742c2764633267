-- White_Space within a line: what stands before it and behind it is trimmed as if it were not there, and how much of it there is.
use Prim.Native.Nat.{ℕ, suc, ◌+◌, ◌<◌, ◌≤◌}
use mathlib.Core.Path.{◌≡◌, refl, sym, ap, ◌∙◌}
use mathlib.Core.List.{List, [], ◌∷◌, ◌++◌, append_assoc, reverse, reverse-cons, reverse-append}
use mathlib.Core.Bool.{true, false, not}
use borrow.Author.Tests.{eq-eqb, ne_eqb}
use native.Mathlib.Omega.{arith}
use lib.Dec.{eqb}
use lib.ListN.{length, get_or, drop, length-append, length-drop}
use lib.Seq.{drop-drop}
use Rattle.base.proofs.Tests.{false_true, and_left, and_right, by_bool}
use Rattle.trim.specs.Trim.{white1, white2, white3, start_trimmed, back, end_trimmed}
use Rattle.trim.specs.Code.Trims.{back2, back3}
use Rattle.trim.specs.Code.Blank.{blank1, blanks_len, blanks1, blanks2, blanks_end}
use Rattle.trim.proofs.White.{by_white3, not1, not2, not3}
use Rattle.trim.proofs.Laws.{yes1, yes3}

-- such characters, one after the other
pub data Blank : List ℕ → Type 0 where
  none : Blank []
  one : {a : ℕ} {s : List ℕ} → white1 a ≡ true → (a ≡ 10 → ⊥) → Blank s → Blank (a ∷ s)
  three : {a b c : ℕ} {s : List ℕ} → white3 a b c ≡ true → Blank s → Blank (a ∷ b ∷ c ∷ s)

pub wide : (a b c : ℕ) → white3 a b c ≡ true → (0xE1 ≤ a) × (0x80 ≤ b) × (b ≤ 0x9A) × (0x80 ≤ c)
wide a b c e =
    by_white3 a b c e
    (λ p q r. (omega arith, omega arith, omega arith, omega arith))
    (λ p q r s. (omega arith, omega arith, omega arith, omega arith))
    (λ p q r s. (omega arith, omega arith, omega arith, omega arith))
    (λ p q r. (omega arith, omega arith, omega arith, omega arith))
    (λ p q r. (omega arith, omega arith, omega arith, omega arith))
    (λ p q r. (omega arith, omega arith, omega arith, omega arith))

pub start_blank : {b : List ℕ} → Blank b → (u : List ℕ) → start_trimmed (b ++ u) ≡ start_trimmed u
start_blank none u = refl
start_blank (one {a} {s} e n h) u = yes1 white2 white3 a (s ++ u) e ∙ start_blank h u
start_blank (three {a} {b} {c} {s} e h) u =
    let w = wide a b c e in
    yes3 white2 white3 a b c (s ++ u) (not1 a (omega arith)) (not2 a b (λ p. omega arith)) e ∙ start_blank h u

back_blank : {b : List ℕ} → Blank b → (v : List ℕ) → back (reverse b ++ v) ≡ back v
back_blank none v = refl
back_blank (one {a} {s} e n h) v =
    ap (λ (t : List ℕ). back (t ++ v)) (reverse-cons a s) ∙ ap back (append_assoc (reverse s) (a ∷ []) v)
    ∙ back_blank h (a ∷ v) ∙ yes1 back2 back3 a v e
back_blank (three {a} {b} {c} {s} e h) v =
    let w = wide a b c e in
    ap (λ (t : List ℕ). back (t ++ v)) (reverse-append (a ∷ b ∷ c ∷ []) s) ∙ ap back (append_assoc (reverse s) (c ∷ b ∷ a ∷ []) v)
    ∙ back_blank h (c ∷ b ∷ a ∷ v) ∙ yes3 back2 back3 c b a v (not1 c (omega arith)) (not2 b c (λ p. omega arith)) e

pub end_blank : {b : List ℕ} → Blank b → (u : List ℕ) → end_trimmed (u ++ b) ≡ end_trimmed u
end_blank {b} h u = ap (λ (t : List ℕ). reverse (back t)) (reverse-append u b) ∙ ap reverse (back_blank h (reverse u))

-- they stand from a place to another
pub record Blanks (s : List ℕ) (at end : ℕ) : Type 0 where
  pub between : List ℕ
  pub is : Blank between
  pub stands : drop at s ≡ between ++ drop end s
  pub place : end ≡ at + length between
  pub fits : end ≤ length s

pub no_blanks : (s : List ℕ) (at : ℕ) → at ≤ length s → Blanks s at at
no_blanks s at h = record { between = []; is = none; stands = refl; place = omega arith; fits = h }

-- what a text starts with
record Front (s : List ℕ) (n : ℕ) : Type 0 where
  between : List ℕ
  is : Blank between
  stands : s ≡ between ++ drop n s
  long : n ≡ length between

nothing : (s : List ℕ) → Front s 0
nothing s = record { between = []; is = none; stands = refl; long = refl }

mutual
  front : (s : List ℕ) → Front s (blanks_len s)
  front [] = nothing []
  front (a ∷ s) =
      by_bool (blank1 a)
      (λ e. rw (e, blanks_len)
      (let f = front s in
      record {
        between = a ∷ f.between;
        is = one (and_left (white1 a) (not (eqb a 10)) e) (λ q. false_true (sym (ap not (eq-eqb a 10 q)) ∙ and_right (white1 a) (not (eqb a 10)) e)) f.is;
        stands = ap (λ (t : List ℕ). a ∷ t) f.stands;
        long = ap suc f.long;
      }))
      (λ e. rw (e, blanks_len) (front1 s a))

  front1 : (s : List ℕ) (a : ℕ) → Front (a ∷ s) (blanks1 a s)
  front1 [] a = nothing (a ∷ [])
  front1 (b ∷ s) a = front2 s a b

  front2 : (s : List ℕ) (a b : ℕ) → Front (a ∷ b ∷ s) (blanks2 a b s)
  front2 [] a b = nothing (a ∷ b ∷ [])
  front2 (c ∷ s) a b =
      by_bool (white3 a b c)
      (λ e. rw (e, blanks2)
      (let f = front s in
      record {
        between = a ∷ b ∷ c ∷ f.between;
        is = three e f.is;
        stands = ap (λ (t : List ℕ). a ∷ b ∷ c ∷ t) f.stands;
        long = ap (λ (n : ℕ). suc (suc (suc n))) f.long;
      }))
      (λ e. rw (e, blanks2) (nothing (a ∷ b ∷ c ∷ s)))

pub blanks : (s : List ℕ) (at : ℕ) → at ≤ length s → Blanks s at (blanks_end s at)
blanks s at h =
    let f = front (drop at s) in
    let n = blanks_len (drop at s) in
    let l = f.long in
    record {
      between = f.between;
      is = f.is;
      stands = f.stands ∙ ap (λ (t : List ℕ). f.between ++ t) (drop-drop n at s);
      place = ap (λ (m : ℕ). at + m) l;
      fits = omega (arith, ap length f.stands, length-append f.between (drop n (drop at s)), length-drop at s);
    }

-- by the bytes that a text starts with
pub blank_one : (a : ℕ) (t : List ℕ) → white1 a ≡ true → (a ≡ 10 → ⊥) → blanks_len (a ∷ t) ≡ suc (blanks_len t)
blank_one a t e n = let b : blank1 a ≡ true = simp (e, ne_eqb a 10 n) in rw (b, blanks_len)

pub at_feed : (a : ℕ) → a ≡ 10 → blank1 a ≡ false
at_feed a e = rw e refl

on : (a : ℕ) (t : List ℕ) → blank1 a ≡ false → blanks_len (a ∷ t) ≡ blanks1 a t
on a t e = rw (e, blanks_len)

wide_short : (a : ℕ) (t : List ℕ) → blank1 a ≡ false → length t < 2 → blanks_len (a ∷ t) ≡ 0
wide_short a [] e h = on a [] e
wide_short a (b ∷ []) e h = on a (b ∷ []) e
wide_short a (b ∷ c ∷ t) e h = absurd (omega arith)

module _ (a b c : ℕ) (t : List ℕ) (e : blank1 a ≡ false) where
  no : white3 a b c ≡ false → blanks2 a b (c ∷ t) ≡ 0
  no f = rw (f, blanks2)

  wide_no : white3 a b c ≡ false → blanks_len (a ∷ b ∷ c ∷ t) ≡ 0
  wide_no f = on a (b ∷ c ∷ t) e ∙ no f

pub no_blank : (a : ℕ) (t : List ℕ) → blank1 a ≡ false → a ≤ 0x7F → blanks_len (a ∷ t) ≡ 0
no_blank a [] e h = wide_short a [] e (omega arith)
no_blank a (b ∷ []) e h = wide_short a (b ∷ []) e (omega arith)
no_blank a (b ∷ c ∷ t) e h = wide_no a b c t e (not3 a b c (λ p. omega arith))

pub blank_ascii : (t : List ℕ) → white1 (get_or t 0 0) ≡ false → get_or t 0 0 ≤ 0x7F → blanks_len t ≡ 0
blank_ascii [] e h = refl
blank_ascii (a ∷ t) e h = no_blank a t (simp e) h

pub blank_feed : (t : List ℕ) → get_or t 0 0 ≡ 10 → blanks_len t ≡ 0
blank_feed [] e = refl
blank_feed (a ∷ t) e = no_blank a t (at_feed a e) (omega arith)

pub blank_short : (t : List ℕ) → (get_or t 0 0 ≤ 0x7F → ⊥) → length t < 3 → blanks_len t ≡ 0
blank_short [] h l = refl
blank_short (a ∷ t) h l = wide_short a t (simp (not1 a (omega arith))) (omega arith)
