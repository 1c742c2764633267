-- The refusals of an expression have the numbers 13 to 19.
use Rattle.std.specs.Prelude.{Option, Some, None}
use Prim.Native.Nat.{ℕ, zero, suc, ◌^◌, ◌≤◌}
use mathlib.Core.Path.{sym, subst}
use mathlib.Core.List.{List, [], ◌∷◌}
use native.Mathlib.Omega.{arith}
use borrow.Author.Tests.{eqb-true, eqb-false}
use lib.Dec.{eqb, ltb}
use Rattle.numbered.specs.declared.Numbered.{Numbered}
use Rattle.base.specs.Outcome.{Outcome, and_then}
use Rattle.base.specs.Lists.{all}
use Rattle.base.proofs.Tests.{by_bool}
use Rattle.base.proofs.Outcome.{Either, then_either}
use Rattle.decimal.specs.Decimal.{value, digit}
use Rattle.token.specs.Token.{allowed, tokens}
use Rattle.grammar.specs.Tree.{Tree}
use Rattle.grammar.specs.Parse.{Env, lookup, Parse, symbol, expression, is_operator_at, operator, joined, closed, nested, named, literal, atom, parse_f, more_f, enough, parsed, all_read, meaning, depth}
use Rattle.grammar.proofs.Steps.{more_ends, more_joins, level_up, factor_opens, factor_atom}
use Rattle.grammar.proofs.Grammar.{meaning_whole, meaning-not_allowed}

abbrev pub OfExpression : Numbered → Type 0
OfExpression r = (13 ≤ r.number) × (r.number ≤ 19)

-- a refusal, where there is one, has such a number
abbrev pub WrongIn : {A : Type 0} → Outcome Numbered A → Type 0
WrongIn o = Either OfExpression (λ a. Unit {0}) o

then_wrong : {A B : Type 0} (o : Outcome Numbered A) (f : A → Outcome Numbered B) → WrongIn o → ((a : A) → WrongIn (f a)) → WrongIn (and_then o f)
then_wrong o f h k = then_either OfExpression (λ b. Unit {0}) o f h (λ a u. k a)

closed_wrong : (r : Tree × List (List ℕ)) → WrongIn (closed r)
closed_wrong (t, []) = (omega arith, omega arith)
closed_wrong (t, w ∷ ts) = by_bool (eqb (symbol w) 41) (λ e. rw e tt) (λ e. rw e (omega arith, omega arith))

nested_wrong : (d : ℕ) (inner : ℕ → Parse) → ((e : ℕ) → WrongIn (inner e)) → WrongIn (nested d inner)
nested_wrong zero inner h = (omega arith, omega arith)
nested_wrong (suc d) inner h = then_wrong (inner d) closed (h d) closed_wrong

named_wrong : (x : Option Tree) → WrongIn (named x)
named_wrong None = (omega arith, omega arith)
named_wrong (Some t) = tt

literal_wrong : (w : List ℕ) → WrongIn (literal w)
literal_wrong w = by_bool (ltb (value w) (2 ^ 64)) (λ e. rw e tt) (λ e. rw e (omega arith, omega arith))

atom_wrong : (env : Env) (w : List ℕ) → WrongIn (atom env w)
atom_wrong env w = by_bool (all digit w) (λ e. rw e (literal_wrong w)) (λ e. rw e (named_wrong (lookup w env)))

whole_wrong : (r : Tree × List (List ℕ)) → WrongIn (all_read r)
whole_wrong (t, []) = tt
whole_wrong (t, w ∷ ts) = (omega arith, omega arith)

module _ (env : Env) where
  abbrev AllParse : ℕ → Type 0
  AllParse f = (l d : ℕ) (ts : List (List ℕ)) → WrongIn (parse_f f l env d ts)

  abbrev AllMore : ℕ → Type 0
  AllMore f = (l d : ℕ) (r : Tree × List (List ℕ)) → WrongIn (more_f f l env d r)

  both_wrong : (f : ℕ) → AllParse f × AllMore f
  unfolding parse_f
  both_wrong zero = (λ l d ts. (omega arith, omega arith), λ l d r. tt)
  both_wrong (suc f) = let ih = both_wrong f in (one ih.0 ih.1, more ih.0 ih.1)
    where
      one : AllParse f → AllMore f → AllParse (suc f)
      one p m zero d [] = (omega arith, omega arith)
      one p m zero d (w ∷ ts) =
          by_bool (eqb (symbol w) 40)
          (λ h. subst WrongIn (sym (factor_opens f env w ts d (eqb-true (symbol w) 40 h))) (nested_wrong d _ (λ e. p expression e ts)))
          (λ h. subst WrongIn (sym (factor_atom f env w ts d (eqb-false (symbol w) 40 h))) (then_wrong (atom env w) _ (atom_wrong env w) (λ t. tt)))
      one p m (suc l) d ts = subst WrongIn (sym (level_up f l env d ts)) (then_wrong (parse_f f l env d ts) (more_f f l env d) (p l d ts) (m l d))

      more : AllParse f → AllMore f → AllMore (suc f)
      more p m l d (t, []) = tt
      more p m l d (t, w ∷ ts) =
          by_bool (is_operator_at (suc l) (symbol w))
          (λ j. subst WrongIn (sym (more_joins f l env d t w ts j)) (then_wrong (parse_f f l env d ts) _ (p l d ts) (λ r. m l d (joined (operator (symbol w)) t r))))
          (λ j. subst WrongIn (sym (more_ends (suc f) l env d t (w ∷ ts) j)) tt)

  pub meaning_wrong : (s : List ℕ) → WrongIn (meaning env s)
  meaning_wrong s =
      by_bool (allowed s)
      (λ a. subst WrongIn (sym (meaning_whole env s a)) (then_wrong (parsed env (tokens s)) all_read ((both_wrong (enough expression (tokens s))).0 expression depth (tokens s)) whole_wrong))
      (λ a. subst WrongIn (sym (meaning-not_allowed env s a)) (omega arith, omega arith))
