-- The encoding of a text of characters, by its parts.
use Prim.Native.Nat.{ℕ, ◌<◌, ◌≤◌}
use mathlib.Core.Path.{◌≡◌, refl, sym, ap, ◌∙◌}
use mathlib.Core.List.{List, [], ◌∷◌, ◌++◌, reverse, append-nil, append_assoc, reverse-cons, reverse-append}
use borrow.Author.Tests.{le-leb, lt-leb}
use native.Mathlib.Omega.{arith}
use Rattle.base.proofs.Tests.{by_leb}
use Rattle.utf8.specs.Encode.{encode, encode2, encode3, encode4, encodes}

-- what holds of the encodings of one byte, two, three and four holds of each encoding
pub by_width : (P : List ℕ → Type 0) (c : ℕ)
    → (c ≤ 0x7F → P (c ∷ [])) → (0x7F < c → c ≤ 0x7FF → P (encode2 c)) → (0x7FF < c → c ≤ 0xFFFF → P (encode3 c)) → (0xFFFF < c → P (encode4 c)) → P (encode c)
by_width P c f1 f2 f3 f4 =
    by_leb c 0x7F (λ h. simp (le-leb c 0x7F h) (f1 h))
    (λ g. by_leb c 0x7FF
    (λ h. simp (lt-leb c 0x7F g, le-leb c 0x7FF h) (f2 g h))
    (λ g. by_leb c 0xFFFF
    (λ h. simp (lt-leb c 0x7F (omega arith), lt-leb c 0x7FF g, le-leb c 0xFFFF h) (f3 g h))
    (λ h. simp (lt-leb c 0x7F (omega arith), lt-leb c 0x7FF (omega arith), lt-leb c 0xFFFF h) (f4 h))))

pub encodes-append : (cs ds : List ℕ) → encodes (cs ++ ds) ≡ encodes cs ++ encodes ds
encodes-append [] ds = refl
encodes-append (c ∷ cs) ds = ap (λ (l : List ℕ). encode c ++ l) (encodes-append cs ds) ∙ sym (append_assoc (encode c) (encodes cs) (encodes ds))

pub encodes_snoc : (cs : List ℕ) (c : ℕ) → encodes (cs ++ c ∷ []) ≡ encodes cs ++ encode c
encodes_snoc cs c = encodes-append cs (c ∷ []) ∙ ap (λ (l : List ℕ). encodes cs ++ l) (append-nil (encode c))

-- from the last character to the first
pub encodes-reverse_cons : (c : ℕ) (cs : List ℕ) → reverse (encodes (reverse (c ∷ cs))) ≡ reverse (encode c) ++ reverse (encodes (reverse cs))
encodes-reverse_cons c cs = ap (λ (l : List ℕ). reverse (encodes l)) (reverse-cons c cs) ∙ ap reverse (encodes_snoc (reverse cs) c) ∙ reverse-append (encodes (reverse cs)) (encode c)
