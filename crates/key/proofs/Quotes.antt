-- Laws of quotes alone: where a key of them stands, and what another byte tells of the places before it.
use Rattle.std.specs.Prelude.{Some}
use Prim.Native.Nat.{ℕ, zero, suc, ◌+◌, ◌-◌, ◌*◌, ◌/◌, ◌%◌, ◌<◌, ◌≤◌}
use mathlib.Core.Path.{◌≡◌, sym, ap, ◌∙◌}
use mathlib.Core.List.{List, [], reverse}
use mathlib.Core.Bool.{true, false}
use borrow.Author.Tests.{eqb-true}
use native.Mathlib.Omega.{arith}
use lib.ListN.{length, get_or, take, drop, replicate, drop_of_length-le}
use Rattle.std.specs.List.{suffix_len}
use Rattle.std.specs.Simd.{first_chunks}
use Rattle.std.proofs.lemmas.List.{get_or-take, get_or-drop, get_or-reverse, get_or-replicate}
use Rattle.std.proofs.lemmas.List.Sums.{prefix_len_passes}
use Rattle.std.proofs.lemmas.Slice.Eq.{bytes_eq-Decides}
use Rattle.base.proofs.Parts.{length_part}
use Rattle.search.proofs.Blocks.{chunk_at}
use Rattle.base.proofs.Tests.{by_bool, by_leb, by_eqb}
use Rattle.search.specs.First.{prefix_of, first_at}
use Rattle.search.proofs.Prefix.{same_at}
use Rattle.search.proofs.Laws.{hit, miss}
use Rattle.key.specs.Key.{quoted}
use Rattle.key.specs.Code.Marked.{Quotes, of_quotes}
use Rattle.key.proofs.Quoted.{quoted-length, key_byte, closing_quote, byte_here}

-- the last n blocks of a part
pub last_blocks : (s : List ℕ) (from end n : ℕ) → from ≤ end → end ≤ length s
    → (t : List ℕ) → t ≡ take (end - from) (drop from s) → (xs : List (List ℕ)) → xs ≡ first_chunks 16 (length t / 16) (drop (length t % 16) t) → length xs ≡ length t / 16
    → n ≡ suffix_len of_quotes xs → n ≤ length xs → Quotes s (end - 16 * n) end
last_blocks s from end n h g t e xs x l q m k a b =
    let lt : length t ≡ end - from = ap length e ∙ length_part s from end h g in
    let r = length t % 16 in
    let j = (end - 1 - k) / 16 in
    let i = length xs - 1 - j in
    let o = k - (from + (r + 16 * i)) in
    let y : from + (r + (16 * i + o)) ≡ k = omega arith in
    let w : get_or xs i [] ≡ take 16 (drop (16 * i) (drop r t)) = ap (λ (u : List (List ℕ)). get_or u i []) x ∙ chunk_at 16 (length t / 16) (drop r t) i [] (omega arith) in
    let p : of_quotes (get_or (reverse xs) j []) ≡ true = prefix_len_passes of_quotes (reverse xs) j [] (omega arith) in
    let c : get_or xs i [] ≡ replicate 16 0x22 = (bytes_eq-Decides (get_or xs i []) (replicate 16 0x22)).0 (ap of_quotes (sym (get_or-reverse xs j [] (omega arith))) ∙ p) in
    let a = r + (16 * i + o) in
    ap (λ (u : ℕ). get_or s u 0) (sym y) ∙ sym (get_or-drop from s a 0) ∙ sym (get_or-take (end - from) (drop from s) a 0 (omega arith))
    ∙ ap (λ (u : List ℕ). get_or u a 0) (sym e) ∙ sym (get_or-drop r t (16 * i + o) 0) ∙ sym (get_or-drop (16 * i) (drop r t) o 0)
    ∙ sym (get_or-take 16 (drop (16 * i) (drop r t)) o 0 (omega arith)) ∙ ap (λ (u : List ℕ). get_or u o 0) (sym w ∙ c) ∙ get_or-replicate 16 o 0x22 0 (omega arith)

-- quotes up to others
pub joined : (s : List ℕ) (from mid end : ℕ) → Quotes s from mid → Quotes s mid end → Quotes s from end
joined s from mid end p q k l g = by_leb mid k (λ h. q k h g) (λ h. p k l h)

-- a key of quotes alone has them between two more
pub quotes_around : (key : List ℕ) → Quotes key 0 (length key) → Quotes (quoted key) 0 (length key + 2)
quotes_around key q k l g =
    by_eqb k 0
    (λ e. ap (λ (n : ℕ). get_or (quoted key) n 0) e)
    (λ p. by_leb k (length key)
    (λ h. key_byte key k (omega arith) h ∙ q (k - 1) (omega arith) (omega arith))
    (λ h. let e : k ≡ length key + 1 = omega arith in ap (λ (n : ℕ). get_or (quoted key) n 0) e ∙ closing_quote key))

-- a part of quotes alone
pub of_part : (s : List ℕ) (from mid : ℕ) → from ≤ mid → mid ≤ length s → ((k : ℕ) → k < length (take (mid - from) (drop from s)) → get_or (take (mid - from) (drop from s)) k 0 ≡ 0x22) → Quotes s from mid
of_part s from mid h g q k a b =
    let l = length_part s from mid h g in
    let z : k ≡ from + (k - from) = omega arith in
    ap (λ (n : ℕ). get_or s n 0) z ∙ sym (get_or-drop from s (k - from) 0) ∙ sym (get_or-take (mid - from) (drop from s) (k - from) 0 (omega arith)) ∙ q (k - from) (omega arith)

module _ (s key : List ℕ) (q : Quotes (quoted key) 0 (length key + 2)) where
  -- it stands where there are quotes alone
  module _ (i : ℕ) (h : i + length key + 2 ≤ length s) (f : Quotes s i (i + length key + 2)) where
    behind : (j : ℕ) → j ≤ length key + 2 → prefix_of (quoted key) (drop i s) ≡ prefix_of (drop j (quoted key)) (drop (i + j) s)
    behind zero l = let e : i ≡ i + 0 = omega arith in ap (λ (k : ℕ). prefix_of (quoted key) (drop k s)) e
    behind (suc j) l =
        let e : j + 1 ≡ suc j = omega arith in
        behind j (omega arith)
        ∙ same_at (quoted key) s j (i + j) (i + suc j) (omega (arith, quoted-length key)) (omega arith) (omega arith) (q j (omega arith) (omega arith) ∙ sym (f (i + j) (omega arith) (omega arith)))
        ∙ ap (λ (k : ℕ). prefix_of (drop k (quoted key)) (drop (i + suc j) s)) e

    pub stands : first_at (quoted key) s i ≡ Some i
    stands =
        let n = length key + 2 in
        hit (quoted key) s i (omega arith)
        (behind n (omega arith) ∙ ap (λ (p : List ℕ). prefix_of p (drop (i + n) s)) (drop_of_length-le (quoted key) {i = n} (omega (arith, quoted-length key))))

  -- where another byte stands at j, it stands at no place that has j in it
  module _ (j : ℕ) (n : get_or s j 0 ≡ 0x22 → ⊥) where
    not_over : (i : ℕ) → i ≤ j → j < i + length key + 2 → prefix_of (quoted key) (drop i s) ≡ false
    not_over i h g =
        by_bool (prefix_of (quoted key) (drop i s))
        (λ y. absurd (n (eqb-true (get_or s j 0) 0x22 (byte_here key s i y (j - i) j 0x22 (omega arith) (omega arith) (q (j - i) (omega arith) (omega arith))))))
        (λ e. e)

    pass : (d i : ℕ) → i + d ≡ j + 1 → j < i + length key + 2 → first_at (quoted key) s i ≡ first_at (quoted key) s (j + 1)
    pass zero i h g = let e : i ≡ j + 1 = omega arith in ap (first_at (quoted key) s) e
    pass (suc d) i h g = miss (quoted key) s i (not_over i (omega arith) g) ∙ pass d (i + 1) (omega arith) (omega arith)

    pub go_on : (i : ℕ) → i ≤ j → j < i + length key + 2 → first_at (quoted key) s i ≡ first_at (quoted key) s (j + 1)
    go_on i h g = pass (j + 1 - i) i (omega arith) g
