-- Parts of a list: what stands from a place on, and what stands before one.
use Prim.Native.Nat.{ℕ, suc, ◌+◌, ◌-◌, ◌<◌, ◌≤◌}
use mathlib.Core.Path.{◌≡◌, refl, sym, ap, ◌∙◌}
use mathlib.Core.List.{List, [], ◌∷◌, ◌++◌, reverse, reverse-append}
use native.Mathlib.Omega.{arith}
use lib.ListN.{length, get_or, take, drop, length-drop, take-append-drop}
use lib.Seq.{drop-cons, drop-drop, drop-append-le, take-suc, take_all, take_at, take-append-le, length-take-le}

-- one element more
pub drop_cons_at : (s : List ℕ) (i j : ℕ) → i < length s → j ≡ i + 1 → drop i s ≡ get_or s i 0 ∷ drop j s
drop_cons_at s i j h n = let e : suc i ≡ j = omega arith in drop-cons s i 0 h ∙ ap (λ (k : ℕ). get_or s i 0 ∷ drop k s) e

pub reverse-take-suc : (s : List ℕ) (e k : ℕ) → k < length s → e ≡ k + 1 → reverse (take e s) ≡ get_or s k 0 ∷ reverse (take k s)
reverse-take-suc s e k h n =
    let p : e ≡ suc k = omega arith in
    ap (λ (m : ℕ). reverse (take m s)) p ∙ ap reverse (take-suc s k 0 h) ∙ reverse-append (take k s) (get_or s k 0 ∷ [])

-- what `&s[i..]` gives
pub take-length-drop : (s : List ℕ) (i : ℕ) → take (length s - i) (drop i s) ≡ drop i s
take-length-drop s i = take_all (length s - i) (drop i s) (simp length-drop (omega arith))

-- a part of a part
pub take-drop-take : (s t : List ℕ) (j m k n i : ℕ) → t ≡ take m (drop j s) → k + n ≤ length t → i ≡ j + k → take n (drop k t) ≡ take n (drop i s)
take-drop-take s t j m k n i e h f =
    let u = drop m (drop j s) in
    let p : drop j s ≡ t ++ u = sym (take-append-drop m (drop j s)) ∙ ap (λ (r : List ℕ). r ++ u) (sym e) in
    let q : drop i s ≡ drop k t ++ u = ap (λ (l : ℕ). drop l s) f ∙ sym (drop-drop k j s) ∙ ap (drop k) p ∙ drop-append-le k t u (omega arith) in
    sym (ap (take n) q ∙ take-append-le n (drop k t) u (omega (arith, length-drop k t)))

-- what stands from a place on and before another
pub take-drop_slice : (s : List ℕ) (i e : ℕ) → i ≤ e → e ≤ length s → take (e - i) (drop i s) ≡ drop i (take e s)
take-drop_slice s i e h k =
    let n = length-take-le e s k in
    let p : drop i s ≡ drop i (take e s) ++ drop e s = ap (drop i) (sym (take-append-drop e s)) ∙ drop-append-le i (take e s) (drop e s) (omega arith) in
    ap (take (e - i)) p ∙ take_at (drop i (take e s)) (drop e s) (e - i) (omega (arith, length-drop i (take e s)))

pub length_part : (s : List ℕ) (i e : ℕ) → i ≤ e → e ≤ length s → length (take (e - i) (drop i s)) ≡ e - i
length_part s i e h k = length-take-le (e - i) (drop i s) (omega (arith, length-drop i s))

pub length_zero : (s : List ℕ) → length s ≡ 0 → s ≡ []
length_zero [] e = refl
length_zero (a ∷ s) e = absurd (omega arith)
