-- The first occurrence in the encoding is that in the code points. It holds for any numbers, scalar values or not.
use Rattle.std.specs.Prelude.{Some}
use Prim.Native.Nat.{ℕ, suc, ◌+◌, ◌≤◌}
use mathlib.Core.Path.{◌≡◌, refl, sym, ap, ◌∙◌}
use mathlib.Core.List.{List, [], ◌∷◌, ◌++◌, append_assoc}
use mathlib.Core.Bool.{true, false}
use native.Mathlib.Omega.{arith}
use lib.ListN.{length, take, drop, length-append, take-append-drop}
use lib.Seq.{append_snoc, take-append_seam, drop-append_seam, length-take-le}
use Rattle.base.proofs.Tests.{by_bool, by_eqb, false_true, and_left, and_right}
use Rattle.search.specs.First.{prefix_of, first_from, first_at}
use Rattle.search.proofs.Prefix.{same, other, common, split}
use Rattle.search.proofs.Laws.{from_hit, from_miss, from_end, within}
use Rattle.utf8.specs.Utf8.{utf8_tail}
use Rattle.utf8.specs.Encode.{encode, encodes}
use Rattle.code_points.specs.Place.{byte_place}
use Rattle.code_points.proofs.Chars.{tails, char, unique}
use Rattle.code_points.proofs.Encodes.{encodes-append, encodes_snoc}

-- UTF-8 is a prefix code
pub prefix_code : (ds cs : List ℕ) → prefix_of (encodes ds) (encodes cs) ≡ prefix_of ds cs
prefix_code [] cs = refl
prefix_code (d ∷ ds) [] = ap (λ (l : List ℕ). prefix_of (l ++ encodes ds) []) (char d).is
prefix_code (d ∷ ds) (c ∷ cs) =
    by_eqb d c
    (λ e. ap (λ (x : ℕ). prefix_of (encode x ++ encodes ds) (encode c ++ encodes cs)) e ∙ common (encode c) (encodes ds) (encodes cs) ∙ prefix_code ds cs ∙ sym (same d c ds cs e))
    (λ n. by_bool (prefix_of (encode d ++ encodes ds) (encode c ++ encodes cs))
    (λ y.
    let r = drop (length (encode d ++ encodes ds)) (encode c ++ encodes cs) in
    absurd (n (sym (unique c d (encodes cs) (encodes ds ++ r) (split (encode d ++ encodes ds) (encode c ++ encodes cs) y ∙ append_assoc (encode d) (encodes ds) r)))))
    (λ f. f ∙ sym (other d c ds cs n)))

-- one byte passed
step : (p : List ℕ) (n a : ℕ) (l s : List ℕ) → prefix_of p (a ∷ l ++ s) ≡ false → first_from (n + 1) p (l ++ s) ≡ first_from (n + 1 + length l) p s → first_from n p (a ∷ l ++ s) ≡ first_from (n + length (a ∷ l)) p s
step p n a l s h e = let k : n + 1 + length l ≡ n + suc (length l) = omega arith in from_miss p n a (l ++ s) h ∙ e ∙ ap (λ (m : ℕ). first_from m p s) k

-- what starts with no tail byte does not stand among tail bytes
skip : (n b : ℕ) (p l s : List ℕ) → utf8_tail b ≡ false → tails l ≡ true → first_from n (b ∷ p) (l ++ s) ≡ first_from (n + length l) (b ∷ p) s
skip n b p [] s f e = let k : n ≡ n + 0 = omega arith in ap (λ (m : ℕ). first_from m (b ∷ p) s) k
skip n b p (a ∷ l) s f e =
    step (b ∷ p) n a l s
    (other b a p (l ++ s) (λ q. false_true (sym f ∙ ap utf8_tail q ∙ and_left (utf8_tail a) (tails l) e)))
    (skip (n + 1) b p l s f (and_right (utf8_tail a) (tails l) e))

-- what does not stand at a character's first byte stands at none of its bytes
next_char : (n c : ℕ) (ds s : List ℕ) → prefix_of (encodes ds) (encode c ++ s) ≡ false → first_from n (encodes ds) (encode c ++ s) ≡ first_from (n + length (encode c)) (encodes ds) s
next_char n c [] s = λ h. false_true (sym h)
next_char n c (d ∷ ds) s =
    let x = char c in
    let y = char d in
    rw (x.is, y.is)
    (λ h. step (y.lead ∷ (y.rest ++ encodes ds)) n x.lead x.rest s h (skip (n + 1) y.lead (y.rest ++ encodes ds) x.rest s y.leads x.follow))

module _ (ds : List ℕ) where
  found_here : (xs ys : List ℕ) → prefix_of ds xs ≡ true → first_from (length (encodes ys)) (encodes ds) (encodes xs) ≡ byte_place (ys ++ xs) (first_from (length ys) ds xs)
  found_here xs ys e =
      from_hit (encodes ds) (length (encodes ys)) (encodes xs) (prefix_code ds xs ∙ e)
      ∙ ap (λ (l : List ℕ). Some (length (encodes l))) (sym (take-append_seam ys xs))
      ∙ ap (byte_place (ys ++ xs)) (sym (from_hit ds (length ys) xs e))

  -- in what is left, xs, when ys is passed
  from : (xs ys : List ℕ) → first_from (length (encodes ys)) (encodes ds) (encodes xs) ≡ byte_place (ys ++ xs) (first_from (length ys) ds xs)
  from [] ys =
      by_bool (prefix_of ds []) (found_here [] ys)
      (λ e. from_end (encodes ds) (length (encodes ys)) (prefix_code ds [] ∙ e) ∙ ap (byte_place (ys ++ [])) (sym (from_end ds (length ys) e)))
  from (c ∷ xs) ys =
      by_bool (prefix_of ds (c ∷ xs)) (found_here (c ∷ xs) ys)
      (λ e.
      let n : length (encodes ys) + length (encode c) ≡ length (encodes (ys ++ c ∷ [])) = sym (ap length (encodes_snoc ys c) ∙ length-append (encodes ys) (encode c)) in
      next_char (length (encodes ys)) c ds (encodes xs) (prefix_code ds (c ∷ xs) ∙ e)
      ∙ ap (λ (m : ℕ). first_from m (encodes ds) (encodes xs)) n
      ∙ from xs (ys ++ c ∷ [])
      ∙ ap (λ (l : List ℕ). byte_place l (first_from (length (ys ++ c ∷ [])) ds xs)) (append_snoc ys c xs)
      ∙ ap (λ (m : ℕ). byte_place (ys ++ c ∷ xs) (first_from m ds xs)) (length-append ys (c ∷ []))
      ∙ ap (byte_place (ys ++ c ∷ xs)) (sym (from_miss ds (length ys) c xs e)))

-- from the start of code point i on
pub first_at_lem : (ds cs : List ℕ) (i : ℕ) → i ≤ length cs → first_at (encodes ds) (encodes cs) (length (encodes (take i cs))) ≡ byte_place cs (first_at ds cs i)
first_at_lem ds cs i h =
    let ys = take i cs in
    let xs = drop i cs in
    let e : encodes cs ≡ encodes ys ++ encodes xs = ap encodes (sym (take-append-drop i cs)) ∙ encodes-append ys xs in
    let n : length (encodes ys) ≤ length (encodes cs) = omega (arith, ap length e ∙ length-append (encodes ys) (encodes xs)) in
    within (encodes ds) (encodes cs) (length (encodes ys)) n
    ∙ ap (first_from (length (encodes ys)) (encodes ds)) (ap (drop (length (encodes ys))) e ∙ drop-append_seam (encodes ys) (encodes xs))
    ∙ from ds xs ys
    ∙ ap (λ (l : List ℕ). byte_place l (first_from (length ys) ds xs)) (take-append-drop i cs)
    ∙ ap (λ (k : ℕ). byte_place cs (first_from k ds xs)) (length-take-le i cs h)
    ∙ ap (byte_place cs) (sym (within ds cs i h))

pub first_at_start : (ds cs : List ℕ) → first_at (encodes ds) (encodes cs) 0 ≡ byte_place cs (first_at ds cs 0)
first_at_start ds cs = first_at_lem ds cs 0 (omega arith)

-- "a" in "é€a"
pub example : first_at (encodes (0x61 ∷ [])) (encodes (0xE9 ∷ 0x20AC ∷ 0x61 ∷ [])) 0 ≡ Some 5
example = refl
