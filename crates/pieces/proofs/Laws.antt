-- Laws of pieces added one after the other.
use Prim.Native.Nat.{ℕ, zero, suc, ◌+◌, ◌-◌, ◌<◌, ◌≤◌}
use mathlib.Core.Path.{◌≡◌, refl, sym, ap, ap₂, subst, ◌∙◌}
use mathlib.Core.List.{List, [], ◌∷◌, ◌++◌, append_assoc}
use native.Mathlib.Omega.{arith}
use lib.ListN.{length, take, drop, length-append, length-take, length-drop}
use Prim.Native.Nat.{min}
use Rattle.base.proofs.Tests.{by_leb}
use lib.Seq.{take_at, take_all, take-append-add, drop-drop, length-take-le}
use Rattle.base.specs.Overwrite.{overwrite}
use Rattle.base.proofs.Overwrite.{overwrite_all, overwrite_again}
use Rattle.writer.specs.Code.Overwrites.{Overwrites}
use Rattle.pieces.specs.Code.Added.{extended, Added}

cut_twice : (n : ℕ) (a b : List ℕ) → take n (take n a ++ b) ≡ take n (a ++ b)
cut_twice zero a b = refl
cut_twice (suc n) [] b = refl
cut_twice (suc n) (x ∷ a) b = ap (λ (l : List ℕ). x ∷ l) (cut_twice n a b)

module _ (o : List ℕ) (l : ℕ) (x : List ℕ) where
  extended-length : length (extended o l x) ≤ length o
  extended-length = omega (arith, length-take (length o) (take l o ++ x))

  extended_more : (y : List ℕ) → length (extended o l x) ≤ length (extended o l (x ++ y))
  extended_more y = omega (arith, length-take (length o) (take l o ++ x), length-take (length o) (take l o ++ (x ++ y)), length-append (take l o) x, length-append (take l o) (x ++ y), length-append x y)

module _ {o : List ℕ} {l : ℕ} {x m : List ℕ} {r : ℕ} (a : Added o l x m r) where
  pub added_length : length m ≡ length o
  added_length = ap length a.is ∙ length-append (extended o l x) (drop (length (extended o l x)) o) ∙ omega (arith, length-drop (length (extended o l x)) o, extended-length o l x)

  pub added_fits : r ≤ length m
  added_fits = omega (arith, a.next, added_length, extended-length o l x)

  pub added_text : take r m ≡ extended o l x
  added_text = ap (take r) a.is ∙ take_at (extended o l x) (drop (length (extended o l x)) o) r (sym a.next)

  pub added_then : {y n : List ℕ} {r' : ℕ} → Added m r y n r' → Added o l (x ++ y) n r'
  added_then {y} {n} {r'} b =
      let t : extended m r y ≡ extended o l (x ++ y) =
      ap₂ (λ (k : ℕ) (u : List ℕ). take k (u ++ y)) added_length added_text
      ∙ cut_twice (length o) (take l o ++ x) y
      ∙ ap (take (length o)) (append_assoc (take l o) x y) in
      record {
        is = b.is ∙ ap₂ (overwrite 0) t a.is ∙ overwrite_again (extended o l x) (extended o l (x ++ y)) o (extended_more o l x y);
        next = b.next ∙ ap length t;
      }

pub added_same : {o : List ℕ} {l : ℕ} {x y m : List ℕ} {r : ℕ} → x ≡ y → Added o l x m r → Added o l y m r
added_same {o} {l} {x} {y} {m} {r} e a = subst (λ (u : List ℕ). Added o l u m r) e a

-- a full buffer
pub add_none : (o : List ℕ) (l : ℕ) (x : List ℕ) → length o < l → Added o l x o (length o)
add_none o l x h =
    let t : extended o l x ≡ o = ap (λ (u : List ℕ). take (length o) (u ++ x)) (take_all l o (omega arith)) ∙ take_at o x (length o) refl in
    record { is = sym (ap (λ (u : List ℕ). overwrite 0 u o) t ∙ overwrite_all o o (omega arith)); next = sym (ap length t) }

-- a piece that was put, where it is what the text is extended by
put_added : (o : List ℕ) (l : ℕ) (x y m : List ℕ) (r : ℕ) → l + length y ≤ length o → extended o l x ≡ take l o ++ y → Overwrites o l y m r → Added o l x m r
put_added o l x y m r h e p =
    let n : length (take l o ++ y) ≡ l + length y = length-append (take l o) y ∙ ap (λ (k : ℕ). k + length y) (length-take-le l o (omega arith)) in
    record {
      is = p.is ∙ ap (λ (u : List ℕ). (take l o ++ y) ++ u) (drop-drop (length y) l o ∙ ap (λ (k : ℕ). drop k o) (sym n)) ∙ ap (λ (u : List ℕ). overwrite 0 u o) (sym e);
      next = p.next ∙ sym n ∙ ap length (sym e);
    }

-- as much of a piece as has room
pub add_fitting : (o : List ℕ) (l : ℕ) (x m : List ℕ) (r : ℕ) → l ≤ length o → Overwrites o l (take (min (length x) (length o - l)) x) m r → Added o l x m r
add_fitting o l x m r h p =
    let y = take (min (length x) (length o - l)) x in
    let n : length y ≡ min (length x) (length o - l) = length-take (min (length x) (length o - l)) x ∙ omega arith in
    put_added o l x y m r (omega arith) (by_leb (length x) (length o - l) whole_piece cut_piece) p
  where
    start : length (take l o) ≡ l
    start = length-take-le l o h

    whole_piece : length x ≤ length o - l → extended o l x ≡ take l o ++ take (min (length x) (length o - l)) x
    whole_piece k =
        take_all (length o) (take l o ++ x) (omega (arith, length-append (take l o) x, start))
        ∙ ap (λ (u : List ℕ). take l o ++ u) (sym (take_all (min (length x) (length o - l)) x (omega arith)))

    cut_piece : length o - l < length x → extended o l x ≡ take l o ++ take (min (length x) (length o - l)) x
    cut_piece k =
        let i : length o ≡ length (take l o) + min (length x) (length o - l) = omega (arith, start) in
        ap (λ (n : ℕ). take n (take l o ++ x)) i ∙ take-append-add (take l o) x (min (length x) (length o - l))

-- a text that has room is whole
pub whole : {o x m : List ℕ} {r : ℕ} → Added o 0 x m r → length x ≤ length o → take r m ≡ x
whole {o} {x} {m} {r} a h = added_text a ∙ take_all (length o) x h
