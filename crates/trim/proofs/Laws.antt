-- What trimming does to a text, by the bytes that it starts with.
use Prim.Native.Nat.{ℕ, zero, suc, ◌+◌, ◌*◌, ◌≤◌}
use mathlib.Core.Path.{◌≡◌, refl, sym, ap, ◌∙◌}
use mathlib.Core.List.{List, [], ◌∷◌, reverse, reverse-reverse}
use mathlib.Core.Bool.{Bool, true, false, ◌&&◌}
use native.Mathlib.Omega.{arith}
use lib.ListN.{length, get_or, take, drop, length-reverse}
use Rattle.std.specs.List.{prefix_len}
use lib.Seq.{take-length, drop-drop}
use Rattle.std.specs.Simd.{first_chunks}
use Rattle.base.specs.Lists.{all}
use Rattle.base.proofs.Tests.{by_bool, and_left, and_right}
use Rattle.base.proofs.Parts.{reverse-take-suc, drop_cons_at}
use Rattle.trim.proofs.White.{not2, not3}
use Rattle.trim.specs.Trim.{white1, white2, white3, trimmed_by, after1, after2, start_trimmed, back, end_trimmed, trimmed}
use Rattle.trim.specs.Code.Trims.{back2, back3}

module _ (two : ℕ → ℕ → Bool) (three : ℕ → ℕ → ℕ → Bool) where
  pub yes1 : (a : ℕ) (t : List ℕ) → white1 a ≡ true → trimmed_by two three (a ∷ t) ≡ trimmed_by two three t
  yes1 a t e = rw (e, trimmed_by)

  pub yes2 : (a b : ℕ) (t : List ℕ) → white1 a ≡ false → two a b ≡ true → trimmed_by two three (a ∷ b ∷ t) ≡ trimmed_by two three t
  yes2 a b t e f = rw (e, trimmed_by, f, after1)

  pub yes3 : (a b c : ℕ) (t : List ℕ) → white1 a ≡ false → two a b ≡ false → three a b c ≡ true → trimmed_by two three (a ∷ b ∷ c ∷ t) ≡ trimmed_by two three t
  yes3 a b c t e f g = rw (e, trimmed_by, f, after1, g, after2)

  pub no3 : (a b c : ℕ) (t : List ℕ) → white1 a ≡ false → two a b ≡ false → three a b c ≡ false → trimmed_by two three (a ∷ b ∷ c ∷ t) ≡ a ∷ b ∷ c ∷ t
  no3 a b c t e f g = rw (e, trimmed_by, f, after1, g, after2)

  -- nothing stands behind the first two bytes, or the first
  pub end2 : (a b : ℕ) (t : List ℕ) → t ≡ [] → white1 a ≡ false → two a b ≡ false → trimmed_by two three (a ∷ b ∷ t) ≡ a ∷ b ∷ t
  end2 a b t z e f = rw (e, trimmed_by, f, after1, z)

  pub end1 : (a : ℕ) (t : List ℕ) → t ≡ [] → white1 a ≡ false → trimmed_by two three (a ∷ t) ≡ a ∷ t
  end1 a t z e = rw (e, trimmed_by, z)

  pub no2 : (a b : ℕ) (t : List ℕ) → white1 a ≡ false → two a b ≡ false → ((c : ℕ) → three a b c ≡ false) → trimmed_by two three (a ∷ b ∷ t) ≡ a ∷ b ∷ t
  no2 a b [] e f g = end2 a b [] refl e f
  no2 a b (c ∷ t) e f g = no3 a b c t e f (g c)

  pub no1 : (a : ℕ) (t : List ℕ) → white1 a ≡ false → ((b : ℕ) → two a b ≡ false) → ((b c : ℕ) → three a b c ≡ false) → trimmed_by two three (a ∷ t) ≡ a ∷ t
  no1 a [] e f g = end1 a [] refl e
  no1 a (b ∷ t) e f g = no2 a b t e (f b) (g b)

-- White_Space of one byte is passed at a text's start
pub white_passed : (s : List ℕ) (n at : ℕ) → at + n ≤ length s → all white1 (take n (drop at s)) ≡ true → start_trimmed (drop at s) ≡ start_trimmed (drop (at + n) s)
white_passed s zero at h e = let m : at ≡ at + 0 = omega arith in ap (λ (k : ℕ). start_trimmed (drop k s)) m
white_passed s (suc n) at h e =
    let d : drop at s ≡ get_or s at 0 ∷ drop (at + 1) s = drop_cons_at s at (at + 1) (omega arith) refl in
    let z : (white1 (get_or s at 0) && all white1 (take n (drop (at + 1) s))) ≡ true = sym (ap (λ (t : List ℕ). all white1 (take (suc n) t)) d) ∙ e in
    let m : at + 1 + n ≡ at + suc n = omega arith in
    ap start_trimmed d
    ∙ yes1 white2 white3 (get_or s at 0) (drop (at + 1) s) (and_left _ _ z)
    ∙ white_passed s n (at + 1) (omega arith) (and_right (white1 (get_or s at 0)) _ z)
    ∙ ap (λ (k : ℕ). start_trimmed (drop k s)) m

-- the blocks of it that come first
pub blocks_passed : (n : ℕ) (s : List ℕ) (k at : ℕ) → at + k * n ≤ length s
    → start_trimmed (drop at s) ≡ start_trimmed (drop (at + n * prefix_len (all white1) (first_chunks n k (drop at s))) s)
blocks_passed n s zero at h = let e : at ≡ at + n * 0 = omega arith in ap (λ (j : ℕ). start_trimmed (drop j s)) e
blocks_passed n s (suc k) at h =
    by_bool (all white1 (take n (drop at s)))
    (λ e.
    let q = prefix_len (all white1) (first_chunks n k (drop (at + n) s)) in
    let z : at + n + n * q ≡ at + n * (1 + q) = omega arith in
    rw (e, drop-drop n at s) (white_passed s n at (omega arith) e ∙ blocks_passed n s k (at + n) (omega arith) ∙ ap (λ (j : ℕ). start_trimmed (drop j s)) z))
    (λ e. let z : at ≡ at + n * 0 = omega arith in rw e (ap (λ (j : ℕ). start_trimmed (drop j s)) z))

pub first_blocks_passed : (n : ℕ) (s : List ℕ) (k : ℕ) → k * n ≤ length s → start_trimmed s ≡ start_trimmed (drop (n * prefix_len (all white1) (first_chunks n k s)) s)
first_blocks_passed n s k h =
    let m = n * prefix_len (all white1) (first_chunks n k s) in
    let z : 0 + m ≡ m = omega arith in
    blocks_passed n s k 0 (omega arith) ∙ ap (λ (j : ℕ). start_trimmed (drop j s)) z

-- a first byte, and a last one, that no White_Space has there
pub start_stays : (a : ℕ) (t : List ℕ) → white1 a ≡ false → (a ≡ 0xC2 → ⊥) → (0xE1 ≤ a → a ≤ 0xE3 → ⊥) → start_trimmed (a ∷ t) ≡ a ∷ t
start_stays a t e f g = no1 white2 white3 a t e (λ b. not2 a b (λ p. f p.0)) (λ b c. not3 a b c (λ p. g p.0 p.1))

pub start_ascii : (t : List ℕ) → white1 (get_or t 0 0) ≡ false → get_or t 0 0 ≤ 0x7F → start_trimmed t ≡ t
start_ascii [] e h = refl
start_ascii (a ∷ t) e h = start_stays a t e (λ p. omega arith) (λ p q. omega arith)

pub back_stays : (a : ℕ) (t : List ℕ) → white1 a ≡ false → (0x80 ≤ a → a ≤ 0xBF → ⊥) → back (a ∷ t) ≡ a ∷ t
back_stays a t e f = no1 back2 back3 a t e (λ b. not2 b a (λ p. f p.1 p.2)) (λ b c. not3 c b a (λ p. f p.4 p.5))

-- a text whose first and last bytes are ASCII and no White_Space
pub trimmed_kept : (a : ℕ) (s : List ℕ) → a ≤ 0x7F → white1 a ≡ false → get_or (a ∷ s) (length s) 0 ≤ 0x7F → white1 (get_or (a ∷ s) (length s) 0) ≡ false
    → trimmed (a ∷ s) ≡ a ∷ s
trimmed_kept a s h e k f =
    let t = a ∷ s in
    let u : reverse t ≡ get_or t (length s) 0 ∷ reverse (take (length s) t) =
    ap reverse (sym (take-length t)) ∙ reverse-take-suc t (length t) (length s) (omega arith) (omega arith) in
    let v : back (reverse t) ≡ reverse t = rw u (back_stays (get_or t (length s) 0) (reverse (take (length s) t)) f (λ p q. omega arith)) in
    ap end_trimmed (start_stays a s e (λ p. omega arith) (λ p q. omega arith)) ∙ ap reverse v ∙ reverse-reverse t

module _ (two : ℕ → ℕ → Bool) (three : ℕ → ℕ → ℕ → Bool) where
  mutual
    shorter : (s : List ℕ) → length (trimmed_by two three s) ≤ length s
    shorter [] = omega arith
    shorter (a ∷ s) =
        by_bool (white1 a)
        (λ e. rw (yes1 two three a s e) (let h = shorter s in omega arith))
        (λ e. rw (e, trimmed_by) (let h = shorter1 s a in omega arith))

    shorter1 : (s : List ℕ) (a : ℕ) → length (after1 two three a s) ≤ suc (length s)
    shorter1 [] a = omega arith
    shorter1 (b ∷ s) a =
        by_bool (two a b)
        (λ e. rw (e, after1) (let h = shorter s in omega arith))
        (λ e. rw (e, after1) (let h = shorter2 s a b in omega arith))

    shorter2 : (s : List ℕ) (a b : ℕ) → length (after2 two three a b s) ≤ suc (suc (length s))
    shorter2 [] a b = omega arith
    shorter2 (c ∷ s) a b =
        by_bool (three a b c)
        (λ e. rw (e, after2) (let h = shorter s in omega arith))
        (λ e. rw (e, after2) (omega arith))

pub start_trimmed-length : (s : List ℕ) → length (start_trimmed s) ≤ length s
start_trimmed-length s = shorter white2 white3 s

pub end_trimmed-length : (s : List ℕ) → length (end_trimmed s) ≤ length s
end_trimmed-length s =
    let h = shorter back2 back3 (reverse s) in
    omega (arith, length-reverse (back (reverse s)), length-reverse s)
