-- A factor as the code reads it from its first token.
use Rattle.std.specs.Prelude.{Some, Result, Ok, Err}
use Prim.Native.Nat.{ℕ, ◌+◌, ◌-◌}
use mathlib.Core.Path.{◌≡◌, sym, ap, ◌∙◌}
use mathlib.Core.List.{List, ◌∷◌}
use lib.ListN.{get_or, take, drop}
use Rattle.std.proofs.Common.{ap₂, arith}
use Rattle.base.specs.declared.span.Span.{Span}
use Rattle.base.specs.Lists.{all}
use Rattle.base.proofs.Tests.{by_bool}
use Rattle.base.proofs.Lists.{all_take_while}
use Rattle.decimal.specs.Decimal.{digit}
use Rattle.token.specs.Code.Bytes.{rest}
use Rattle.token.specs.Code.Places.{token_at}
use Rattle.token.proofs.Tokens.{token_next, token_end, digit_token}
use Rattle.expression.specs.declared.ExprError.{ExprError}
use Rattle.expression.specs.declared.factors.Factor.{Factor}
use Rattle.expression.specs.declared.factors.FactorAt.{FactorAt}
use Rattle.expression.specs.Code.Factor.{factor_of, first_factor, ending, factor_at}

-- a token is digits where its first byte is one
all_digits : (a : ℕ) (d : List ℕ) → all digit (a ∷ rest a d) ≡ digit a
all_digits a d =
    by_bool (digit a)
    (λ e. ap (all digit) (digit_token a e d) ∙ all_take_while digit (a ∷ d) ∙ sym e)
    (λ e. simp e)

module _ (s : List ℕ) (at : ℕ) {t : Span} (e : token_at s at ≡ Some t) where
  pub token_digits : all digit (take (t.end - t.start) (drop t.start s)) ≡ digit (get_or (take (t.end - t.start) (drop t.start s)) 0 0)
  token_digits = let n = token_next s at e in rw n.bytes (all_digits (get_or s t.start 0) (drop (t.start + 1) s))

-- the factor at a place is that of the token there
module _ (s expr : List ℕ) (at count : ℕ) (names lens tags : List ℕ) where
  pub factor_placed : {t : Span} → token_at expr at ≡ Some t → factor_at s expr at count names lens tags ≡ ending t.end (factor_of s count names lens tags (take (t.end - t.start) (drop t.start expr)))
  factor_placed {t} e =
      let n = token_next expr at e in
      ap₂ ending (token_end expr at e) (ap (first_factor s count names lens tags) n.list ∙ ap (factor_of s count names lens tags) (sym n.bytes))

-- what is read, of a factor and where it ends
pub ended_as : (end : ℕ) (f : Result Factor ExprError) {r : FactorAt} → ending end f ≡ Ok r → (f ≡ Ok r.factor) × (r.end ≡ end)
ended_as end (Ok f) {r} e = let q : record { factor = f; end = end } ≡ r = cc in (ap (λ (y : FactorAt). Ok y.factor) q, sym (ap (λ (y : FactorAt). y.end) q))
ended_as end (Err x) e = absurd (let z : ◌≡◌ {A = ℕ} 0 1 = cc in omega arith)

pub ended_refused : (end : ℕ) (f : Result Factor ExprError) {x : ExprError} → ending end f ≡ Err x → f ≡ Err x
ended_refused end (Ok f) e = absurd (let z : ◌≡◌ {A = ℕ} 0 1 = cc in omega arith)
ended_refused end (Err y) {x} e = let q : y ≡ x = cc in ap Err q
