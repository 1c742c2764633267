-- Laws of a key in double quotes: whether it stands at a place, byte by byte.
use Rattle.std.specs.Prelude.{Option, None}
use Prim.Native.Nat.{ℕ, suc, ◌+◌, ◌-◌, ◌<◌, ◌≤◌}
use mathlib.Core.Path.{◌≡◌, refl, sym, ap, ◌∙◌}
use mathlib.Core.List.{List, [], ◌∷◌, ◌++◌, append_assoc}
use mathlib.Core.Bool.{true, false, ◌&&◌}
use borrow.Author.Tests.{eqb-true}
use native.Mathlib.Omega.{arith}
use lib.Dec.{eqb}
use lib.ListN.{length, get_or, take, drop, set, length-set, get_or-append, length-append, length-drop}
use borrow.Rule.Slice.PartMut.{put_mid}
use Rattle.std.proofs.lemmas.Slice.{take-put_mid}
use lib.Seq.{drop-drop, get_or-append-add, take-suc-set, length-take-le}
use Rattle.base.proofs.Tests.{by_bool, false_true, and_left, and_right}
use Rattle.search.specs.First.{prefix_of, first_at}
use Rattle.std.specs.Option.{option_or}
use Rattle.search.proofs.Prefix.{same_at, common, append, split, each, byte_yes}
use Rattle.search.proofs.Laws.{no_room, or_nothing}
use Rattle.key.specs.Key.{quoted}

pub quoted-length : (key : List ℕ) → length (quoted key) ≡ length key + 2
quoted-length key = simp length-append (omega arith)

-- p and then q
module _ (p q s : List ℕ) where
  then : prefix_of p s ≡ true → prefix_of (p ++ q) s ≡ prefix_of q (drop (length p) s)
  then e = ap (prefix_of (p ++ q)) (split p s e) ∙ common p q (drop (length p) s)

  never_then : prefix_of p s ≡ false → prefix_of (p ++ q) s ≡ false
  never_then e =
      by_bool (prefix_of (p ++ q) s)
      (λ y. let r = drop (length (p ++ q)) s in
      false_true (sym e ∙ ap (prefix_of p) (split (p ++ q) s y ∙ append_assoc p q r) ∙ append p (q ++ r)))
      (λ n. n)

-- between two quotes
module _ (s key : List ℕ) (at : ℕ) (h : at + length key + 1 < length s) (t : (eqb (get_or s at 0) 0x22 && eqb (get_or s (at + 1 + length key) 0) 0x22) ≡ true) where
  behind_quote : prefix_of (quoted key) (drop at s) ≡ prefix_of (key ++ 0x22 ∷ []) (drop (at + 1) s)
  behind_quote = same_at (quoted key) s 0 at (at + 1) (omega arith) (omega arith) refl (sym (eqb-true (get_or s at 0) 0x22 (and_left (eqb (get_or s at 0) 0x22) _ t)))

  pub between : prefix_of key (drop (at + 1) s) ≡ prefix_of (quoted key) (drop at s)
  between =
      by_bool (prefix_of key (drop (at + 1) s))
      (λ y. y ∙ sym (
      behind_quote ∙ then key (0x22 ∷ []) (drop (at + 1) s) y
      ∙ ap (prefix_of (0x22 ∷ [])) (drop-drop (length key) (at + 1) s)
      ∙ byte_yes 0x22 s (at + 1 + length key) (omega arith) (eqb-true (get_or s (at + 1 + length key) 0) 0x22 (and_right (eqb (get_or s at 0) 0x22) _ t))
      ))
      (λ n. n ∙ sym (behind_quote ∙ never_then key (0x22 ∷ []) (drop (at + 1) s) n))

-- the bytes of a key in double quotes
module _ (key : List ℕ) where
  pub closing_quote : get_or (quoted key) (length key + 1) 0 ≡ 0x22
  closing_quote =
      let e : length key + 1 ≡ suc (length key + 0) = omega arith in
      ap (λ (k : ℕ). get_or (quoted key) k 0) e ∙ get_or-append-add key (0x22 ∷ []) 0 0

  pub key_byte : (k : ℕ) → 0 < k → k ≤ length key → get_or (quoted key) k 0 ≡ get_or key (k - 1) 0
  key_byte k h l =
      let e : k ≡ suc (k - 1) = omega arith in
      ap (λ (n : ℕ). get_or (quoted key) n 0) e ∙ get_or-append key (0x22 ∷ []) 0 (k - 1) (omega arith)

  -- where the key stands in double quotes, each of their bytes does
  module _ (s : List ℕ) (at : ℕ) (e : prefix_of (quoted key) (drop at s) ≡ true) where
    pub byte_here : (j k b : ℕ) → j < length key + 2 → k ≡ at + j → get_or (quoted key) j 0 ≡ b → eqb (get_or s k 0) b ≡ true
    byte_here j k b h i f = ap (eqb (get_or s k 0)) (sym f) ∙ each (quoted key) s at j k e (omega (arith, quoted-length key)) i

    pub opening_here : eqb (get_or s at 0) 0x22 ≡ true
    opening_here = byte_here 0 at 0x22 (omega arith) (omega arith) refl

    pub closing_here : (k : ℕ) → k ≡ at + (length key + 1) → eqb (get_or s k 0) 0x22 ≡ true
    closing_here k i = byte_here (length key + 1) k 0x22 (omega arith) i closing_quote

-- a key that is written between two quotes
module _ (pattern key part : List ℕ) (n : ℕ) (e : n ≡ length key) (p : part ≡ key) (h : length key + 2 ≤ length pattern) where
  opened : List ℕ
  opened = set pattern 0 0x22

  long : length (put_mid 1 n (set pattern 0 0x22) part) ≡ length pattern
  long =
      let l = length-set pattern 0 0x22 in
      let t : length (take 1 (set pattern 0 0x22)) ≡ 1 = length-take-le 1 _ (omega arith) in
      let y : length part ≡ length key = ap length p in
      simp (length-append, length-drop) (omega arith)

  pub written_size : length (set (put_mid 1 n (set pattern 0 0x22) part) (length key + 1) 0x22) ≡ length pattern
  written_size = length-set _ _ _ ∙ long

  pub written : take (length key + 2) (set (put_mid 1 n (set pattern 0 0x22) part) (length key + 1) 0x22) ≡ quoted key
  written =
      let l = length-set pattern 0 0x22 in
      let q = put_mid 1 n (set pattern 0 0x22) part in
      let z : length key + 2 ≡ suc (length key + 1) = omega arith in
      let y : length part ≡ length key = ap length p in
      let f : take (length key + 1) q ≡ take 1 (set pattern 0 0x22) ++ part = take-put_mid 1 n (set pattern 0 0x22) part (length key + 1) (omega arith) (omega arith) in
      let g = long in
      ap (λ (m : ℕ). take m (set q (length key + 1) 0x22)) z ∙ take-suc-set q (length key + 1) 0x22 (omega arith)
      ∙ ap (λ (t : List ℕ). t ++ 0x22 ∷ []) (f ∙ ap (λ (t : List ℕ). t ++ part) (take-suc-set pattern 0 0x22 (omega arith)) ∙ ap (λ (t : List ℕ). 0x22 ∷ t) p)

-- from `stop` on there is no room
module _ (s key : List ℕ) (at stop : ℕ) (h : stop + length key + 1 ≡ length s) where
  pub none_behind : first_at (quoted key) s stop ≡ None
  none_behind = no_room (quoted key) s stop (omega (arith, quoted-length key))

  pub nowhere_else : (r : Option ℕ) → first_at (quoted key) s at ≡ option_or r (first_at (quoted key) s stop) → r ≡ first_at (quoted key) s at
  nowhere_else r e = sym (e ∙ ap (option_or r) none_behind ∙ or_nothing r)
