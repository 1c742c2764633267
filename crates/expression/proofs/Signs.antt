-- Tokens as signs, and signs as the grammar's operators.
use Prim.Native.Nat.{ℕ, ◌+◌, ◌-◌}
use mathlib.Core.Path.{◌≡◌, refl, sym, ap, ◌∙◌}
use mathlib.Core.List.{List, [], ◌∷◌}
use mathlib.Core.Bool.{true, false}
use Rattle.std.specs.Prelude.{Option, Some, None}
use Rattle.std.proofs.lemmas.Option.{none-some, cond_some, some_pair_parts}
use Rattle.std.proofs.Common.{ap₂}
use native.Mathlib.Omega.{arith}
use borrow.Author.Tests.{eqb-true, eq-eqb, ne_eqb}
use lib.Dec.{eqb}
use lib.ListN.{length, take, drop}
use Rattle.base.specs.declared.span.Span.{Span}
use Rattle.base.proofs.Tests.{by_eqb}
use Rattle.word.specs.declared.Operator.{Operator}
use Rattle.word.specs.declared.Operator.TheVariants.{Add, Sub, Mul, Div, Equal, Less}
use Rattle.word.specs.Code.Operator.{binary_of}
use Rattle.token.specs.Code.Places.{first, start_at, token_at}
use Rattle.token.proofs.Tokens.{Next, token_from, token_next, token_length}
use Rattle.expression.specs.declared.parts.Sign.{Sign}
use Rattle.expression.specs.declared.parts.Level.{Level}
use Rattle.grammar.specs.Parse.{symbol, is_operator_at, operator}
use Rattle.grammar.specs.Code.Operator as grammar
use Rattle.grammar.proofs.Steps.{level_is, other_level, no_level}
use Rattle.expression.specs.Code.Parts.{sign_named, sign_of, placed, first_sign, sign_at, level_of, level_number, operator_in}

-- the sign at a place is that of the token there
pub sign_placed : (s : List ℕ) (at : ℕ) {t : Span} → token_at s at ≡ Some t → sign_at s at ≡ placed t.end (sign_of (take (t.end - t.start) (drop t.start s)))
sign_placed s at {t} e =
    let n = token_next s at e in
    ap (first_sign (start_at s at)) n.list ∙ ap₂ placed (token_length s at e) (ap sign_of (sym n.bytes))

-- what a byte is as a sign, in the code and in the grammar
pub data SignByte (a : ℕ) : Type 0 where
  opens : a ≡ 40 → SignByte a
  closes : a ≡ 41 → SignByte a
  joins : (op : Operator) → sign_named a ≡ Some (Sign.Operator op) → operator a ≡ binary_of op → is_operator_at (level_number (level_of op)) a ≡ true → SignByte a
  other : sign_named a ≡ None → ((l : ℕ) → is_operator_at l a ≡ false) → SignByte a

pub sign_byte : (a : ℕ) → SignByte a
sign_byte a =
    by_eqb a 40 opens (λ n40.
    by_eqb a 41 closes (λ n41.
    by_eqb a 43 (λ e. joins Add (rw e refl) (rw e refl) (rw e refl)) (λ n43.
    by_eqb a 45 (λ e. joins Sub (rw e refl) (rw e refl) (rw e refl)) (λ n45.
    by_eqb a 42 (λ e. joins Mul (rw e refl) (rw e refl) (rw e refl)) (λ n42.
    by_eqb a 47 (λ e. joins Div (rw e refl) (rw e refl) (rw e refl)) (λ n47.
    by_eqb a 60 (λ e. joins Less (rw e refl) (rw e refl) (rw e refl)) (λ n60.
    by_eqb a 61 (λ e. joins Equal (rw e refl) (rw e refl) (rw e refl)) (λ n61.
    other
    (simp (ne_eqb a 40 n40, ne_eqb a 41 n41, ne_eqb a 43 n43, ne_eqb a 45 n45, ne_eqb a 42 n42, ne_eqb a 47 n47, ne_eqb a 60 n60, ne_eqb a 61 n61))
    (λ l. no_level l a (let q : grammar.level_of a ≡ 4 = simp (ne_eqb a 43 n43, ne_eqb a 45 n45, ne_eqb a 42 n42, ne_eqb a 47 n47, ne_eqb a 60 n60, ne_eqb a 61 n61) in omega arith))))))))))

closed : (a : ℕ) → sign_named a ≡ Some Sign.Close → a ≡ 41
closed a e = go (sign_byte a)
  where
    go : SignByte a → a ≡ 41
    go (opens q) = absurd (let z : sign_named 40 ≡ Some Sign.Close = ap sign_named (sym q) ∙ e in let y : ◌≡◌ {A = ℕ} 0 1 = cc in omega arith)
    go (closes q) = q
    go (joins op q x j) = absurd (let y : ◌≡◌ {A = ℕ} 0 1 = cc (q, e) in omega arith)
    go (other q j) = absurd (none-some _ (sym q ∙ e))

-- a token that is there
module _ {s : List ℕ} {at start end : ℕ} (n : Next s at start end) where
  token_sign : sign_of (take (end - start) (drop start s)) ≡ sign_of (token_from s start)
  token_sign = ap sign_of n.bytes

  pub closes_at : sign_of (take (end - start) (drop start s)) ≡ Some Sign.Close → symbol (token_from s start) ≡ 41
  closes_at e = closed _ (sym token_sign ∙ e)

  pub is_close : symbol (token_from s start) ≡ 41 → sign_of (take (end - start) (drop start s)) ≡ Some Sign.Close
  is_close e = token_sign ∙ ap sign_named e

-- an operator of a level, at the start of a list of tokens
pub record FirstOperator (l : Level) (i : ℕ) (ts : List (List ℕ)) (op : Operator) (end : ℕ) : Type 0 where
  pub token : List ℕ
  pub behind : List (List ℕ)
  pub list : ts ≡ token ∷ behind
  pub ends : i + length token ≡ end
  pub means : operator (symbol token) ≡ binary_of op
  pub joins : is_operator_at (level_number l) (symbol token) ≡ true

pub first_operator : (l : Level) (i : ℕ) (ts : List (List ℕ)) {op : Operator} {end : ℕ} → operator_in l (first_sign i ts) ≡ Some (op, end) → FirstOperator l i ts op end
first_operator l i [] e = absurd (none-some _ e)
first_operator l i (w ∷ ts) {op} {end} e = go (sign_byte (symbol w))
  where
    in_level : {o : Option Sign} → sign_of w ≡ o → operator_in l (placed (i + length w) o) ≡ Some (op, end)
    in_level q = ap (λ (o : Option Sign). operator_in l (placed (i + length w) o)) (sym q) ∙ e

    go : SignByte (symbol w) → FirstOperator l i (w ∷ ts) op end
    go (opens q) = absurd (none-some _ (in_level (ap sign_named q)))
    go (closes q) = absurd (none-some _ (in_level (ap sign_named q)))
    go (other q j) = absurd (none-some _ (in_level q))
    go (joins p q x j) =
        let c = cond_some (eqb (level_number (level_of p)) (level_number l)) (p, i + length w) (op, end) (in_level q) in
        let d = some_pair_parts p op (i + length w) end (ap Some c.1) in
        record {
          token = w;
          behind = ts;
          list = refl;
          ends = d.1;
          means = x ∙ ap binary_of d.0;
          joins = ap (λ (m : ℕ). is_operator_at m (symbol w)) (sym (eqb-true _ _ c.0)) ∙ j;
        }

pub no_operator : (l : Level) (i : ℕ) (ts : List (List ℕ)) → operator_in l (first_sign i ts) ≡ None → is_operator_at (level_number l) (symbol (first ts)) ≡ false
no_operator l i [] e = no_level (level_number l) 0 (omega arith)
no_operator l i (w ∷ ts) e = go (sign_byte (symbol w))
  where
    go : SignByte (symbol w) → is_operator_at (level_number l) (symbol w) ≡ false
    go (opens q) = rw q (no_level (level_number l) 40 (omega arith))
    go (closes q) = rw q (no_level (level_number l) 41 (omega arith))
    go (other q j) = j (level_number l)
    go (joins p q x j) =
        by_eqb (level_number (level_of p)) (level_number l)
        (λ m.
        let y : operator_in l (placed (i + length w) (Some (Sign.Operator p))) ≡ Some (p, i + length w) = simp (eq-eqb (level_number (level_of p)) (level_number l) m) in
        absurd (none-some _ (sym e ∙ ap (λ (o : Option Sign). operator_in l (placed (i + length w) o)) q ∙ y)))
        (λ m. other_level (level_number l) (symbol w) (λ n. m (sym (n ∙ level_is _ _ j))))
