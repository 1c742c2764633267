-- The encoding of a character by RFC 3629: a first byte, which is no tail byte and tells how many tail bytes follow.
use Prim.Native.Nat.{ℕ, ◌+◌, ◌-◌, ◌*◌, ◌/◌, ◌%◌, ◌<◌, ◌≤◌}
use mathlib.Core.Path.{◌≡◌, refl, sym, ap, ap₂, ◌∙◌}
use mathlib.Core.List.{List, [], ◌∷◌, ◌++◌}
use mathlib.Core.Bool.{Bool, true, false, cond, ◌&&◌}
use borrow.Author.Tests.{le-leb, lt-leb}
use native.Mathlib.Omega.{arith}
use lib.Dec.{leb}
use lib.ListN.{length, take, drop}
use lib.Seq.{take_at, drop-append_seam}
use Rattle.base.proofs.Tests.{by_leb, inside, below, above}
use Rattle.utf8.specs.Utf8.{utf8_tail}
use Rattle.utf8.specs.Encode.{encode, encodes, Valid}

abbrev pub tails : List ℕ → Bool
tails [] = true
tails (a ∷ s) = utf8_tail a && tails s

-- how many tail bytes follow a first byte
abbrev pub following : ℕ → ℕ
following a = cond (leb a 0x7F) 0 (cond (leb a 0xDF) 1 (cond (leb a 0xEF) 2 3))

-- the character that is so encoded
abbrev pub value : List ℕ → ℕ
value [] = 0
value (a ∷ []) = a
value (a ∷ b ∷ []) = (a - 0xC0) * 64 + (b - 0x80)
value (a ∷ b ∷ c ∷ []) = (a - 0xE0) * 4096 + (b - 0x80) * 64 + (c - 0x80)
value (a ∷ b ∷ c ∷ d ∷ s) = (a - 0xF0) * 262144 + (b - 0x80) * 4096 + (c - 0x80) * 64 + (d - 0x80)

pub record Char (c : ℕ) : Type 0 where
  pub lead : ℕ
  pub rest : List ℕ
  pub is : encode c ≡ lead ∷ rest
  pub leads : utf8_tail lead ≡ false
  pub follow : tails rest ≡ true
  pub many : length rest ≡ following lead
  pub code : value (lead ∷ rest) ≡ c

-- 0x80 to 0xBF
is_tail : (n : ℕ) → utf8_tail (0x80 + n % 64) ≡ true
is_tail n = inside 0x80 0xBF (0x80 + n % 64) (omega arith) (omega arith)

char1 : (c : ℕ) → c ≤ 0x7F → Char c
char1 c h =
    record {
      lead = c;
      rest = [];
      is = simp (le-leb c 0x7F h);
      leads = below 0x80 0xBF c (omega arith);
      follow = refl;
      many = simp (le-leb c 0x7F h);
      code = refl;
    }

char2 : (c : ℕ) → 0x7F < c → c ≤ 0x7FF → Char c
char2 c g h =
    let a = 0xC0 + c / 64 in
    record {
      lead = a;
      rest = (0x80 + c % 64) ∷ [];
      is = simp (lt-leb c 0x7F g, le-leb c 0x7FF h);
      leads = above 0x80 0xBF a (omega arith);
      follow = simp (is_tail c);
      many = simp (lt-leb a 0x7F (omega arith), le-leb a 0xDF (omega arith));
      code = omega arith;
    }

char3 : (c : ℕ) → 0x7FF < c → c ≤ 0xFFFF → Char c
char3 c g h =
    let a = 0xE0 + c / 4096 in
    record {
      lead = a;
      rest = (0x80 + c / 64 % 64) ∷ (0x80 + c % 64) ∷ [];
      is = simp (lt-leb c 0x7F (omega arith), lt-leb c 0x7FF g, le-leb c 0xFFFF h);
      leads = above 0x80 0xBF a (omega arith);
      follow = simp (is_tail (c / 64), is_tail c);
      many = simp (lt-leb a 0x7F (omega arith), lt-leb a 0xDF (omega arith), le-leb a 0xEF (omega arith));
      code = omega arith;
    }

char4 : (c : ℕ) → 0xFFFF < c → Char c
char4 c g =
    let a = 0xF0 + c / 262144 in
    let p : c / 64 / 64 ≡ c / 4096 = omega arith in
    let q : c / 4096 / 64 ≡ c / 262144 = omega arith in
    record {
      lead = a;
      rest = (0x80 + c / 4096 % 64) ∷ (0x80 + c / 64 % 64) ∷ (0x80 + c % 64) ∷ [];
      is = simp (lt-leb c 0x7F (omega arith), lt-leb c 0x7FF (omega arith), lt-leb c 0xFFFF g);
      leads = above 0x80 0xBF a (omega arith);
      follow = simp (is_tail (c / 4096), is_tail (c / 64), is_tail c);
      many = simp (lt-leb a 0x7F (omega arith), lt-leb a 0xDF (omega arith), lt-leb a 0xEF (omega arith));
      code = omega arith;
    }

pub char : (c : ℕ) → Char c
char c = by_leb c 0x7F (char1 c) (λ g. by_leb c 0x7FF (char2 c g) (λ h. by_leb c 0xFFFF (char3 c h) (char4 c)))

-- the character that a text starts with
pub unique : (c d : ℕ) (s t : List ℕ) → encode c ++ s ≡ encode d ++ t → c ≡ d
unique c d s t e =
    let x = char c in
    let y = char d in
    let f : x.lead ∷ (x.rest ++ s) ≡ y.lead ∷ (y.rest ++ t) = ap (λ (l : List ℕ). l ++ s) (sym x.is) ∙ e ∙ ap (λ (l : List ℕ). l ++ t) y.is in
    let a : x.lead ≡ y.lead = cc in
    let b : x.rest ++ s ≡ y.rest ++ t = cc in
    let n : length y.rest ≡ length x.rest = y.many ∙ ap following (sym a) ∙ sym x.many in
    let r : x.rest ≡ y.rest = sym (take_at x.rest s (length x.rest) refl) ∙ ap (take (length x.rest)) b ∙ take_at y.rest t (length x.rest) n in
    sym x.code ∙ rw (a, r) refl ∙ y.code

-- a text is the encoding of one text of characters alone
some : (d : ℕ) (s : List ℕ) → [] ≡ encode d ++ s → ⊥
some d s e = let x = char d in omega (arith, ap length (e ∙ ap (λ (l : List ℕ). l ++ s) x.is))

pub same_characters : (cs ds : List ℕ) → encodes cs ≡ encodes ds → cs ≡ ds
same_characters [] [] e = refl
same_characters [] (d ∷ ds) e = absurd (some d (encodes ds) e)
same_characters (c ∷ cs) [] e = absurd (some c (encodes cs) (sym e))
same_characters (c ∷ cs) (d ∷ ds) e =
    let h = unique c d (encodes cs) (encodes ds) e in
    let f : encode c ++ encodes cs ≡ encode c ++ encodes ds = e ∙ ap (λ (x : ℕ). encode x ++ encodes ds) (sym h) in
    let g : encodes cs ≡ encodes ds = sym (drop-append_seam (encode c) (encodes cs)) ∙ ap (drop (length (encode c))) f ∙ drop-append_seam (encode c) (encodes ds) in
    ap₂ ◌∷◌ h (same_characters cs ds g)

pub same_valid : (s : List ℕ) (v w : Valid s) → v.0 ≡ w.0
same_valid s v w = same_characters v.0 w.0 (sym v.2 ∙ w.2)
