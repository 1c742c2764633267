-- The lines of an encoding are the encodings of the lines. It holds for any numbers, scalar values or not.
use Prim.Native.Nat.{ℕ, ◌<◌, ◌≤◌}
use mathlib.Core.Path.{◌≡◌, refl, sym, ap, ◌∙◌}
use mathlib.Core.List.{List, [], ◌∷◌, ◌++◌, map, append-nil}
use mathlib.Core.Bool.{Bool, true, ◌&&◌}
use borrow.Author.Tests.{ne_eqb, le-leb}
use native.Mathlib.Omega.{arith}
use lib.Dec.{eqb}
use lib.ListN.{length}
use Rattle.base.proofs.Tests.{between, by_leb, and_left, and_right}
use Rattle.base.proofs.Parts.{length_zero}
use Rattle.lines.specs.Lines.{front, feed_next, lines}
use Rattle.lines.proofs.Laws.{lines_other, no_return, by_start}
use Rattle.utf8.specs.Utf8.{utf8_tail}
use Rattle.utf8.specs.Encode.{encode, encodes}
use Rattle.code_points.proofs.Chars.{tails, Char, char, value}

-- the first line with some bytes more in front
fronts : List ℕ → List (List ℕ) → List (List ℕ)
fronts [] ls = ls
fronts (a ∷ s) ls = front a (fronts s ls)

fronts_some : (s l : List ℕ) (ls : List (List ℕ)) → fronts s (l ∷ ls) ≡ (s ++ l) ∷ ls
unfolding fronts
fronts_some [] l ls = refl
fronts_some (a ∷ s) l ls = ap (front a) (fronts_some s l ls)

fronts_none : (a : ℕ) (s : List ℕ) → fronts (a ∷ s) [] ≡ (a ∷ s) ∷ []
unfolding fronts
fronts_none a [] = refl
fronts_none a (b ∷ s) = ap (front a) (fronts_none b s)

-- bytes past ASCII end no line
high : (a : ℕ) (s : List ℕ) → 0x7F < a → lines (a ∷ s) ≡ front a (lines s)
high a s h = lines_other a s (λ e. omega arith) (no_return a s (λ e. omega arith))

tails_lines : (l s : List ℕ) → tails l ≡ true → lines (l ++ s) ≡ fronts l (lines s)
unfolding fronts
tails_lines [] s e = refl
tails_lines (a ∷ l) s e =
    let b = between 0x80 0xBF a (and_left (utf8_tail a) (tails l) e) in
    high a (l ++ s) (omega arith) ∙ ap (front a) (tails_lines l s (and_right (utf8_tail a) (tails l) e))

pub ascii : (c : ℕ) → c ≤ 0x7F → encode c ≡ c ∷ []
ascii c h = simp (le-leb c 0x7F h)

-- one character more in front, in code points and in bytes
front-encodes : (c : ℕ) (ls : List (List ℕ)) → map encodes (front c ls) ≡ fronts (encode c) (map encodes ls)
front-encodes c [] =
    let x = char c in
    ap (λ (s : List ℕ). s ∷ []) (append-nil (encode c) ∙ x.is)
    ∙ sym (ap (λ (s : List ℕ). fronts s []) x.is ∙ fronts_none x.lead x.rest)
front-encodes c (l ∷ ls) = sym (fronts_some (encode c) (encodes l) (map encodes ls))

-- a character past ASCII has no byte of ASCII
pub lead_high : (c : ℕ) (x : Char c) → 0x7F < c → 0x7F < x.lead
lead_high c x h = by_leb x.lead 0x7F (λ g. absurd (alone g)) (λ g. g)
  where
    alone : x.lead ≤ 0x7F → ⊥
    alone g =
        let n : length x.rest ≡ 0 = x.many ∙ simp (le-leb x.lead 0x7F g) in
        let e : x.lead ≡ c = sym (ap (λ (s : List ℕ). value (x.lead ∷ s)) (length_zero x.rest n)) ∙ x.code in
        omega arith

past_ascii : (c : ℕ) (s : List ℕ) → 0x7F < c → lines (encode c ++ s) ≡ fronts (encode c) (lines s)
unfolding fronts
past_ascii c s h =
    let x = char c in
    rw x.is (high x.lead (x.rest ++ s) (lead_high c x h) ∙ ap (front x.lead) (tails_lines x.rest s x.follow))

feed_encodes : (cs : List ℕ) → feed_next (encodes cs) ≡ feed_next cs
feed_encodes [] = refl
feed_encodes (c ∷ cs) =
    by_leb c 0x7F (λ h. rw (ascii c h) refl)
    (λ h. let x = char c in rw x.is (ne_eqb x.lead 10 (λ e. let z = lead_high c x h in omega arith) ∙ sym (ne_eqb c 10 (λ e. omega arith))))

pub lines-encodes : (cs : List ℕ) → lines (encodes cs) ≡ map encodes (lines cs)
unfolding fronts
lines-encodes [] = refl
lines-encodes (c ∷ cs) =
    let ih = lines-encodes cs in
    by_leb c 0x7F
    (λ h. rw (ascii c h)
    (by_start c cs (λ e. rw e (ap (λ (ls : List (List ℕ)). [] ∷ ls) ih)) (λ t e n. rw (e, n) (rw n at ih))
    (λ g e.
    lines_other c (encodes cs) g (ap (λ (b : Bool). eqb c 13 && b) (feed_encodes cs) ∙ e)
    ∙ ap (front c) ih
    ∙ sym (ap (map encodes) (lines_other c cs g e) ∙ front-encodes c (lines cs) ∙ ap (λ (s : List ℕ). fronts s (map encodes (lines cs))) (ascii c h)))))
    (λ h. past_ascii c (encodes cs) h ∙ ap (fronts (encode c)) ih ∙ sym (ap (map encodes) (high c cs h) ∙ front-encodes c (lines cs)))
