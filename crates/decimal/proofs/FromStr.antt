-- `u64::from_str` by the digits behind the plus.
use Rattle.std.specs.Prelude.{Option, Some, None, MatchOption}
use Rattle.std.specs.Option.{unwrap_or}
use Rattle.std.specs.Cmp.Lexicographic.{pointwise}
use Rattle.std.proofs.lemmas.Slice.Eq.{strip_prefix_is}
use Rattle.std.proofs.lemmas.Bool.Decides.{Decides-eqb}
use Prim.Native.Nat.{ℕ, ◌+◌, ◌<◌, ◌≤◌}
use denote.Ref.{Bor}
use lib.Dec.{eqb}
use mathlib.Core.Bool.{true, false}
use mathlib.Core.Logic.{◌≢◌}
use mathlib.Core.Path.{◌≡◌, refl, sym, ap, ◌∙◌}
use mathlib.Core.List.{List, [], ◌∷◌}
use borrow.Author.Tests.{lt-ltb, ne_eqb}
use native.Mathlib.Omega.{arith}
use lib.ListN.{length, take, drop}
use Rattle.base.specs.Lists.{all, take_while}
use Rattle.base.proofs.Tests.{by_bool}
use Rattle.base.proofs.Lists.{take_while_all, all_length, length-take_while}
use Rattle.decimal.specs.Decimal.{digit, value, without_plus, from_digits, number_of}
use Rattle.decimal.specs.Code.Digits.{capped}

-- a text that starts with no plus
pub not_signed : (s : List ℕ) → ((rest : List ℕ) → s ≢ 43 ∷ rest) → s ≡ without_plus s
not_signed [] n = refl
not_signed (a ∷ s) n = simp (ne_eqb a 43 (λ e. n s (ap (λ (b : ℕ). b ∷ s) e)))

some_other : (s : List ℕ) → length (take_while digit s) < length s → from_digits s ≡ None
some_other s h =
    by_bool (all digit s)
    (λ e. absurd (omega (arith, ap length (take_while_all digit s e))))
    (λ e. simp (lt-ltb 0 (length s) (omega arith), e))

no_digits : (s : List ℕ) → length (take_while digit s) ≡ 0 → from_digits s ≡ None
no_digits [] h = refl
no_digits (a ∷ s) h = some_other (a ∷ s) (omega arith)

all_digits : (s : List ℕ) → 0 < length s → length s ≤ length (take_while digit s) → from_digits s ≡ capped (value (take_while digit s))
all_digits s p h =
    let e = all_length digit s h in
    simp (lt-ltb 0 (length s) p, e, take_while_all digit s e)

-- a text without the plus that it may start with, by what `strip_prefix` found
pub behind_plus : (x : Bor (List ℕ)) (r : Option (Bor (List ℕ))) → MatchOption r (pointwise eqb (take 1 x.now) (43 ∷ []) ≡ false) (λ y. (pointwise eqb (take 1 x.now) (43 ∷ []) ≡ true) × (y.now ≡ drop 1 x.now) × (length y.now + 1 ≡ length x.now)) → (unwrap_or r x).now ≡ without_plus x.now
behind_plus x r m = go r (strip_prefix_is Decides-eqb x.now (43 ∷ []) r m)
  where
    go : (r : Option (Bor (List ℕ))) → MatchOption r ((rest : List ℕ) → x.now ≢ 43 ∷ rest) (λ y. x.now ≡ 43 ∷ y.now) → (unwrap_or r x).now ≡ without_plus x.now
    go None h = not_signed x.now h
    go (Some y) e = sym (ap without_plus e)

-- a text by the digits that stand behind its plus
module _ (s t : List ℕ) (p : t ≡ without_plus s) where
  pub read_none : length (take_while digit t) ≡ 0 → number_of s ≡ None
  read_none h = ap from_digits (sym p) ∙ no_digits t h

  pub read_other : length (take_while digit t) < length t → number_of s ≡ None
  read_other h = ap from_digits (sym p) ∙ some_other t h

  pub read_all : (length (take_while digit t) ≡ 0 → ⊥) → length t ≤ length (take_while digit t) → number_of s ≡ capped (value (take_while digit t))
  read_all z h = let k = length-take_while digit t in ap from_digits (sym p) ∙ all_digits t (omega arith) h
