-- Laws of bytes written over a buffer.
use Prim.Native.Nat.{ℕ, ◌+◌, ◌-◌, ◌<◌, ◌≤◌}
use mathlib.Core.Path.{◌≡◌, refl, sym, ap, ◌∙◌}
use mathlib.Core.List.{List, [], ◌∷◌, ◌++◌, append-nil, append_assoc}
use native.Mathlib.Omega.{arith}
use native.Mathlib.Numerals.{add-one}
use lib.ListN.{length, take, drop, set, length-append, length-drop, length-set, take-append-drop, drop_of_length-le}
use lib.Seq.{slice, append_snoc, length-take-le, take_at, drop_at, take-take, drop-drop, drop-append-add, set_split, take-set-le, drop-set-lt, get_or-set_same}
use Rattle.base.specs.Overwrite.{overwrite}
use Rattle.base.proofs.Parts.{drop_cons_at}

pub overwrite_none : (at : ℕ) (buffer : List ℕ) → overwrite at [] buffer ≡ buffer
overwrite_none at buffer = ap (λ (l : List ℕ). l ++ drop at buffer) (append-nil (take at buffer)) ∙ take-append-drop at buffer

pub overwrite_one : (at b : ℕ) (buffer : List ℕ) → at < length buffer → overwrite at (b ∷ []) buffer ≡ set buffer at b
overwrite_one at b buffer h =
    append_assoc (take at buffer) (b ∷ []) (drop 1 (drop at buffer))
    ∙ ap (λ (l : List ℕ). take at buffer ++ b ∷ l) (drop-drop 1 at buffer ∙ ap (λ (n : ℕ). drop n buffer) (add-one at))
    ∙ sym (set_split buffer at b h)

-- the last byte first
pub overwrite_last : (at : ℕ) (bytes : List ℕ) (b : ℕ) (buffer : List ℕ) → at + length bytes < length buffer
    → overwrite at (bytes ++ b ∷ []) buffer ≡ overwrite at bytes (set buffer (at + length bytes) b)
overwrite_last at bytes b buffer h =
    let k = at + length bytes in
    let n : at + length (bytes ++ b ∷ []) ≡ k + 1 = omega (arith, length-append bytes (b ∷ [])) in
    let tail : drop k (set buffer k b) ≡ b ∷ drop (k + 1) buffer =
    drop_cons_at (set buffer k b) k (k + 1) (simp length-set h) refl
    ∙ ap (λ (a : ℕ). a ∷ drop (k + 1) (set buffer k b)) (get_or-set_same buffer k b 0 h)
    ∙ ap (λ (l : List ℕ). b ∷ l) (drop-set-lt (k + 1) buffer k b (omega arith)) in
    let e = drop-drop (length (bytes ++ b ∷ [])) at buffer in
    let f = drop-drop (length bytes) at (set buffer k b) in
    cc (e, f, tail, n, take-set-le at buffer k b (omega arith), append_assoc (take at buffer) bytes (b ∷ []), append_snoc (take at buffer ++ bytes) b (drop (k + 1) buffer))

module _ (at : ℕ) (bytes buffer : List ℕ) (h : at + length bytes ≤ length buffer) where
  start : length (take at buffer) ≡ at
  start = length-take-le at buffer (omega arith)

  long : length (take at buffer ++ bytes) ≡ at + length bytes
  long = simp (length-append, start)

  pub overwrite-length : length (overwrite at bytes buffer) ≡ length buffer
  overwrite-length = simp (length-append, length-drop, start) (omega arith)

  -- what stands before the bytes is as before
  pub overwrite-before : take at (overwrite at bytes buffer) ≡ take at buffer
  overwrite-before =
      ap (take at) (append_assoc (take at buffer) bytes (drop (length bytes) (drop at buffer)))
      ∙ take_at (take at buffer) (bytes ++ drop (length bytes) (drop at buffer)) at start

  pub overwrite_slice : (a b : ℕ) → b ≤ at → slice a b (overwrite at bytes buffer) ≡ slice a b buffer
  overwrite_slice a b l =
      ap (drop a) (sym (take-take b at (overwrite at bytes buffer) l) ∙ ap (take b) overwrite-before ∙ take-take b at buffer l)

  front : take (at + length bytes) (overwrite at bytes buffer) ≡ take at buffer ++ bytes
  front = take_at (take at buffer ++ bytes) (drop (length bytes) (drop at buffer)) (at + length bytes) long

  pub overwrite_there : slice at (at + length bytes) (overwrite at bytes buffer) ≡ bytes
  overwrite_there = ap (drop at) front ∙ drop_at (take at buffer) bytes at start

  pub overwrite_then : (more : List ℕ) → overwrite (at + length bytes) more (overwrite at bytes buffer) ≡ overwrite at (bytes ++ more) buffer
  overwrite_then more =
      let back : drop (at + length bytes) (overwrite at bytes buffer) ≡ drop (length bytes) (drop at buffer) =
      drop_at (take at buffer ++ bytes) (drop (length bytes) (drop at buffer)) (at + length bytes) long in
      let rest : drop (length more) (drop (length bytes) (drop at buffer)) ≡ drop (length (bytes ++ more)) (drop at buffer) =
      drop-drop (length more) (length bytes) (drop at buffer) ∙ ap (λ (n : ℕ). drop n (drop at buffer)) (sym (length-append bytes more)) in
      cc (front, back, rest, append_assoc (take at buffer) bytes more)

-- all of a buffer
pub overwrite_all : (bytes buffer : List ℕ) → length buffer ≤ length bytes → overwrite 0 bytes buffer ≡ bytes
overwrite_all bytes buffer h = ap (λ (l : List ℕ). bytes ++ l) (drop_of_length-le buffer h) ∙ append-nil bytes

-- what is written over the start again is as long or longer
pub overwrite_again : (bytes more buffer : List ℕ) → length bytes ≤ length more → overwrite 0 more (overwrite 0 bytes buffer) ≡ overwrite 0 more buffer
overwrite_again bytes more buffer h =
    let k : length more ≡ length bytes + (length more - length bytes) = omega arith in
    ap (λ (l : List ℕ). more ++ l)
    (ap (λ (n : ℕ). drop n (bytes ++ drop (length bytes) buffer)) k
    ∙ drop-append-add bytes (drop (length bytes) buffer) (length more - length bytes)
    ∙ drop-drop (length more - length bytes) (length bytes) buffer
    ∙ ap (λ (n : ℕ). drop n buffer) (sym k))
