-- The number of an encoding is that of the code points. It holds for any numbers, scalar values or not.
use Rattle.std.specs.Prelude.{Some, None}
use Prim.Native.Nat.{ℕ, ◌^◌}
use mathlib.Core.Path.{◌≡◌, refl, sym, ap, ◌∙◌}
use mathlib.Core.List.{List, [], ◌∷◌, ◌++◌}
use mathlib.Core.Bool.{Bool, true, false, cond, ◌&&◌}
use borrow.Author.Tests.{ne_eqb}
use native.Mathlib.Omega.{arith}
use lib.Dec.{ltb}
use lib.ListN.{length}
use Rattle.base.specs.Lists.{all}
use Rattle.base.proofs.Tests.{by_bool, by_leb, by_eqb, above, between, and_left, and_right}
use Rattle.utf8.specs.Encode.{encode, encodes}
use Rattle.decimal.specs.Decimal.{digit, value, without_plus, from_digits, number_of}
use Rattle.code_points.proofs.Chars.{char}
use Rattle.code_points.proofs.Lines.{ascii, lead_high}

-- a character past ASCII is no digit, and its first byte is none
all_digits : (cs : List ℕ) → all digit (encodes cs) ≡ all digit cs
all_digits [] = refl
all_digits (c ∷ cs) =
    by_leb c 0x7F
    (λ h. ap (λ (l : List ℕ). all digit (l ++ encodes cs)) (ascii c h) ∙ ap (λ (b : Bool). digit c && b) (all_digits cs))
    (λ h.
    let x = char c in
    ap (λ (l : List ℕ). all digit (l ++ encodes cs)) x.is
    ∙ ap (λ (b : Bool). b && all digit (x.rest ++ encodes cs)) (above 48 57 x.lead (let g = lead_high c x h in omega arith))
    ∙ sym (ap (λ (b : Bool). b && all digit cs) (above 48 57 c (omega arith))))

-- digits are their own encoding
own : (cs : List ℕ) → all digit cs ≡ true → encodes cs ≡ cs
own [] e = refl
own (c ∷ cs) e =
    let b = between 48 57 c (and_left (digit c) (all digit cs) e) in
    ap (λ (l : List ℕ). l ++ encodes cs) (ascii c (omega arith)) ∙ ap (λ (l : List ℕ). c ∷ l) (own cs (and_right (digit c) (all digit cs) e))

not-digits : (s : List ℕ) → all digit s ≡ false → from_digits s ≡ None
not-digits s e = ap (λ (b : Bool). cond (ltb 0 (length s) && b && ltb (value s) (2 ^ 64)) (Some (value s)) None) e ∙ go (ltb 0 (length s))
  where
    go : (b : Bool) → cond (b && false && ltb (value s) (2 ^ 64)) (Some (value s)) None ≡ None
    go true = refl
    go false = refl

digits_number : (cs : List ℕ) → from_digits (encodes cs) ≡ from_digits cs
digits_number cs =
    by_bool (all digit cs)
    (λ e. ap from_digits (own cs e))
    (λ e. not-digits (encodes cs) (all_digits cs ∙ e) ∙ sym (not-digits cs e))

other_first : (a : ℕ) (s : List ℕ) → (a ≡ 43 → ⊥) → without_plus (a ∷ s) ≡ a ∷ s
other_first a s n = ap (λ (b : Bool). cond b s (a ∷ s)) (ne_eqb a 43 n)

without_plus_lem : (cs : List ℕ) → without_plus (encodes cs) ≡ encodes (without_plus cs)
without_plus_lem [] = refl
without_plus_lem (c ∷ cs) =
    by_eqb c 43
    (λ e. ap (λ (d : ℕ). without_plus (encode d ++ encodes cs)) e ∙ sym (ap (λ (d : ℕ). encodes (without_plus (d ∷ cs))) e))
    (λ n.
    let x = char c in
    let p : encode c ++ encodes cs ≡ x.lead ∷ (x.rest ++ encodes cs) = ap (λ (l : List ℕ). l ++ encodes cs) x.is in
    ap without_plus p ∙ other_first x.lead (x.rest ++ encodes cs) (not_plus n) ∙ sym p ∙ sym (ap encodes (other_first c cs n)))
  where
    not_plus : (c ≡ 43 → ⊥) → (char c).lead ≡ 43 → ⊥
    not_plus n e =
        by_leb c 0x7F
        (λ h. let q : c ∷ [] ≡ (char c).lead ∷ (char c).rest = sym (ascii c h) ∙ (char c).is in let r : c ≡ (char c).lead = cc in n (r ∙ e))
        (λ h. let g = lead_high c (char c) h in omega arith)

pub number_encodes : (cs : List ℕ) → number_of (encodes cs) ≡ number_of cs
number_encodes cs = ap from_digits (without_plus_lem cs) ∙ digits_number (without_plus cs)
