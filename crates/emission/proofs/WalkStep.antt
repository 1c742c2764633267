-- A step of the walk, as what the code reads at a place says it.
use Rattle.std.specs.Prelude.{Option, Some, None, Result, Ok, Err, ok_or, option_map}
use Prim.Native.Nat.{ℕ, ◌+◌, ◌^◌, ◌<◌, ◌≤◌}
use mathlib.Core.Path.{◌≡◌, refl, sym, ap, subst, ◌∙◌}
use mathlib.Core.List.{List, [], ◌∷◌, ◌++◌, append-nil}
use mathlib.Core.Bool.{Bool, true, false}
use native.Mathlib.Omega.{arith}
use borrow.Author.Tests.{lt-ltb, le-leb, eq-eqb, ne_eqb}
use lib.Dec.{leb}
use lib.ListN.{length, drop, drop_of_length-le}
use Rattle.base.specs.declared.span.Span.{Span}
use Rattle.base.proofs.Tests.{by_leb}
use Rattle.decimal.specs.Decimal.{value}
use Rattle.token.specs.Token.{tokens, scan}
use Rattle.token.specs.Code.Places.{token_at, start_at, end_at, first}
use Rattle.token.proofs.Tokens.{token_none, token_next, token_end, token_from, next_at}
use Rattle.grammar.specs.Tree.{Tree}
use Rattle.grammar.specs.Grammar.{levels}
use Rattle.grammar.specs.Parse.{lookup, symbol}
use Rattle.bindings.specs.Code.Source.{Sources, env_of, tree_of, AllInText}
use Rattle.bindings.specs.Code.Table.{found}
use Rattle.grammar.specs.Code.Texts.{text_of}
use Rattle.emission.specs.Code.Lines.{push_text, operators_text}
use Rattle.expression.specs.declared.ExprError.{ExprError}
use Rattle.expression.specs.declared.ExprError.TheVariants.{UnknownIdentifier}
use Rattle.expression.specs.declared.factors.Factor.{Factor}
use Rattle.expression.specs.declared.factors.Factor.TheVariants.{Open, Literal, Name}
use Rattle.expression.specs.Code.Factor.{factor_of, first_factor}
use Rattle.grammar.specs.Code.Operator.{level_of}
use Rattle.emission.specs.Code.Waiting.{most, popped, left}
use Rattle.emission.specs.Code.Turn.{down_to, stack_after}
use Rattle.emission.proofs.Stack.{text_num}
use Rattle.emission.proofs.Walk.{FactorStep, opens, number, name, OperatorStep, closes, waits, Walks}
use Rattle.emission.proofs.Names.{Looked, looked}

-- a place is passed where a token or the end is behind it
pub token_past : (s : List ℕ) (at : ℕ) → at < length s → at < end_at s at
token_past s at h =
    by_leb (length s) (start_at s at)
    (λ g. omega arith)
    (λ g.
    let n = next_at s at (start_at s at) refl g _ refl in
    let l = ap (λ (t : List (List ℕ)). length (first t)) n.list in
    omega (arith, n.after))

-- where no token is left, none is behind
pub none_behind : (s : List ℕ) (at : ℕ) → tokens (drop at s) ≡ [] → tokens (drop (end_at s at) s) ≡ []
unfolding scan
none_behind s at e =
    by_leb (length s) (start_at s at)
    (λ h. ap tokens (drop_of_length-le s {i = end_at s at} (omega arith)))
    (λ h.
    let n = next_at s at (start_at s at) refl h _ refl in
    let l = ap (λ (t : List (List ℕ)). length t) (sym e ∙ n.list) in
    absurd (omega arith))

by_token : {P : Type 0} (t : Option Span) → (t ≡ None → P) → ((x : Span) → t ≡ Some x → P) → P
by_token None none some = none refl
by_token (Some x) none some = some x refl

module _ (s : List ℕ) (c : Sources) (count : ℕ) (next : Bool → List ℕ → List ℕ → Type 0) (st o : List ℕ) where
  -- a factor is read: what it writes, and how the walk goes on
  abbrev pub Factored : Result Factor ExprError → Type 0
  Factored (Ok Open) = (length st < most) × next true (40 ∷ st) o
  Factored (Ok (Literal v)) = (o' : List ℕ) × ((o ≡ push_text v ++ o') × next false st o')
  Factored (Ok (Name i)) = (i < count) × ((o' : List ℕ) × ((o ≡ text_of (tree_of s c i) ++ o') × next false st o'))
  Factored (Err e) = ⊥

module _ (s : List ℕ) (c : Sources) (count : ℕ) (a : AllInText s c count) (next : Bool → List ℕ → List ℕ → Type 0) (st o : List ℕ) where
  named : (w : List ℕ) (t : Tree) → lookup w (env_of s c count) ≡ Some t → (o' : List ℕ) → o ≡ text_of t ++ o' → next false st o' → (f : Option ℕ) → Looked s c w count f → Factored s c count next st o (ok_or (option_map Name f) UnknownIdentifier)
  named w t q o' e g (Some i) (l, r) =
      let z : Some t ≡ Some (tree_of s c i) = sym q ∙ r in
      let y : t ≡ tree_of s c i = cc in
      (l, (o', (e ∙ ap (λ (u : Tree). text_of u ++ o') y, g)))
  named w t q o' e g None r = absurd (let z : Some t ≡ None = sym q ∙ r in let y : ◌≡◌ {A = ℕ} 0 1 = cc in omega arith)

  factored : (w : List ℕ) → FactorStep (env_of s c count) next st w o → Factored s c count next st o (factor_of s count c.names c.lens c.tags w)
  factored w (opens e l g) =
      let q : factor_of s count c.names c.lens c.tags w ≡ Ok Open = simp (eq-eqb (symbol w) 40 e) in
      subst (Factored s c count next st o) (sym q) (l, g)
  factored w (number n d v o' e g) =
      let q : factor_of s count c.names c.lens c.tags w ≡ Ok (Literal (value w)) = simp (ne_eqb (symbol w) 40 n, d, lt-ltb (value w) (2 ^ 64) v) in
      subst (Factored s c count next st o) (sym q) (o', (e ∙ ap (λ (x : List ℕ). x ++ o') (text_num (value w)), g))
  factored w (name n d t l o' e g) =
      let q : factor_of s count c.names c.lens c.tags w ≡ ok_or (option_map Name (found count s c.names c.lens c.tags w)) UnknownIdentifier = simp (ne_eqb (symbol w) 40 n, d) in
      subst (Factored s c count next st o) (sym q) (named w t l o' e g (found count s c.names c.lens c.tags w) (looked s c w count a))

-- from a place of a text on
module _ (s : List ℕ) (c : Sources) (count : ℕ) (x : List ℕ) (at : ℕ) (st o : List ℕ) where
  abbrev pub onward : Bool → List ℕ → List ℕ → Type 0
  onward due st' o' = Walks (env_of s c count) due st' (tokens (drop (end_at x at) x)) o'

  -- an operator is read: what it writes, and how the walk goes on
  pub record Operated (sign : ℕ) : Type 0 where
    pub o' : List ℕ
    pub text : o ≡ operators_text (popped (down_to sign) st) ++ o'
    pub walks : onward (leb (level_of sign) levels) (stack_after sign (left (down_to sign) st)) o'
    pub room : level_of sign ≤ levels → length (left (down_to sign) st) < most
    pub mark : sign ≡ 41 → 0 < length (left (down_to sign) st)
    pub last : (level_of sign ≤ levels → ⊥) → (sign ≡ 41 → ⊥) → tokens (drop at x) ≡ []

module _ (s : List ℕ) (c : Sources) (count : ℕ) (a : AllInText s c count) (x : List ℕ) (at : ℕ) (st o : List ℕ) where
  pub factor_step : Walks (env_of s c count) true st (tokens (drop at x)) o → Factored s c count (onward s c count x at st o) st o (first_factor s count c.names c.lens c.tags (tokens (drop at x)))
  factor_step w =
      by_token (token_at x at)
      (λ e. absurd (rw (token_none x at e).0 at w))
      (λ t e.
      let n = token_next x at e in
      let v = subst (λ (j : ℕ). FactorStep (env_of s c count) (λ due st' o'. Walks (env_of s c count) due st' (tokens (drop j x)) o') st (token_from x t.start) o) (sym (token_end x at e)) (rw n.list at w) in
      rw n.list (factored s c count a (onward s c count x at st o) st o (token_from x t.start) v))

module _ (s : List ℕ) (c : Sources) (count : ℕ) (x : List ℕ) (at : ℕ) (st o : List ℕ) where
  operated : (w : List ℕ) → OperatorStep (onward s c count x at st o) st w o → Operated s c count x at st o (symbol w)
  operated w (closes e st' l o' q g) = rw e (record {
    o' = o';
    text = q;
    walks = rw l g;
    room = λ h. absurd (omega arith);
    mark = λ h. rw l (omega arith);
    last = λ h n. absurd (n refl);
  })
  operated w (waits h r o' q g) =
      let d : down_to (symbol w) ≡ level_of (symbol w) = omega arith in
      let t = le-leb (level_of (symbol w)) levels h in
      record {
        o' = o';
        text = rw d q;
        walks = rw (d, t) g;
        room = λ k. rw d r;
        mark = λ k. absurd (let z : level_of (symbol w) ≡ levels + 1 = rw k refl in omega arith);
        last = λ n k. absurd (n h);
      }

  ended : tokens (drop at x) ≡ [] → Walks (env_of s c count) false st [] o → Operated s c count x at st o 0
  unfolding popped left
  ended n e = record {
    o' = [];
    text = e.text ∙ sym (append-nil (operators_text (popped levels st)));
    walks = rw (none_behind x at n, e.empty) (record { text = refl; empty = refl });
    room = λ k. absurd (omega arith);
    mark = λ k. absurd (omega arith);
    last = λ h k. n;
  }

  pub operator_step : Walks (env_of s c count) false st (tokens (drop at x)) o → Operated s c count x at st o (symbol (first (tokens (drop at x))))
  operator_step w =
      by_token (token_at x at)
      (λ e. let n = (token_none x at e).0 in rw n (ended n (rw n at w)))
      (λ t e.
      let n = token_next x at e in
      let v = subst (λ (j : ℕ). OperatorStep (λ due st' o'. Walks (env_of s c count) due st' (tokens (drop j x)) o') st (token_from x t.start) o) (sym (token_end x at e)) (rw n.list at w) in
      rw n.list (operated (token_from x t.start) v))
