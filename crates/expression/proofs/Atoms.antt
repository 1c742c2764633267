-- Closing parentheses, as the code reads them.
use Rattle.std.specs.Prelude.{Some, Ok, Err}
use Prim.Native.Nat.{ℕ, ◌-◌}
use mathlib.Core.Path.{◌≡◌, sym, ap, ◌∙◌}
use mathlib.Core.List.{List, ◌∷◌}
use borrow.Author.Tests.{eq-eqb, ne_eqb}
use lib.ListN.{take, drop}
use Rattle.token.specs.Token.{tokens}
use Rattle.token.specs.Code.Places.{end_at, token_at}
use Rattle.token.proofs.Tokens.{token_next, token_end}
use Rattle.base.specs.declared.span.Span.{Span}
use Rattle.figures.specs.declared.Figures.{Figures}
use Rattle.expression.specs.declared.ExprError.TheVariants.{UnbalancedParenthesis}
use Rattle.grammar.specs.Parse.{symbol}
use Rattle.expression.specs.Code.Parts.{sign_of, closed_read}
use Rattle.expression.specs.declared.parts.Sign.TheVariants.{Close}
use Rattle.expression.proofs.Signs.{closes_at, is_close}

-- a parenthesis that is due
module _ (v : Figures) (end : ℕ) {ts us : List (List ℕ)} {w : List ℕ} (e : ts ≡ w ∷ us) where
  pub closed_is : symbol w ≡ 41 → Ok (record { next = end; k = v.k; p = v.p; len = v.len; value = v.value }) ≡ closed_read ts end v
  closed_is q = rw e (simp (eq-eqb (symbol w) 41 q))

  pub closed_other : (symbol w ≡ 41 → ⊥) → Err UnbalancedParenthesis ≡ closed_read ts end v
  closed_other q = rw e (simp (ne_eqb (symbol w) 41 q))

-- the token that follows what was read in parentheses
module _ (s : List ℕ) (v : Figures) {t : Span} (e : token_at s v.next ≡ Some t) where
  pub close_is : sign_of (take (t.end - t.start) (drop t.start s)) ≡ Some Close → Ok (record { next = t.end; k = v.k; p = v.p; len = v.len; value = v.value }) ≡ closed_read (tokens (drop v.next s)) (end_at s v.next) v
  close_is q =
      let n = token_next s v.next e in
      closed_is v t.end n.list (closes_at n q) ∙ ap (λ (j : ℕ). closed_read (tokens (drop v.next s)) j v) (sym (token_end s v.next e))

  pub close_other : (sign_of (take (t.end - t.start) (drop t.start s)) ≡ Some Close → ⊥) → Err UnbalancedParenthesis ≡ closed_read (tokens (drop v.next s)) (end_at s v.next) v
  close_other q =
      let n = token_next s v.next e in
      closed_other v (end_at s v.next) n.list (λ x. q (is_close n x))
