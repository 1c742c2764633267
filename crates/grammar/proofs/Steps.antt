-- Steps of the parser's definition, each for every fuel that is enough.
use Prim.Native.Nat.{ℕ, zero, suc, ◌+◌, ◌*◌, ◌^◌, ◌<◌, ◌≤◌}
use mathlib.Core.Path.{◌≡◌, refl, sym, ap, ◌∙◌}
use mathlib.Core.List.{List, [], ◌∷◌}
use mathlib.Core.Bool.{true, false, cond, ◌&&◌}
use Rattle.std.specs.Prelude.{Some, None}
use native.Mathlib.Omega.{arith}
use borrow.Author.Tests.{lt-ltb, le-ltb, eqb-true, eq-eqb, ne_eqb}
use lib.Dec.{eqb}
use lib.ListN.{length}
use Rattle.base.specs.Outcome.{is, refused, and_then}
use Rattle.base.specs.Lists.{all}
use Rattle.base.proofs.Tests.{false_true, by_bool, by_or, and_left, and_right}
use Rattle.numbered.specs.declared.Numbered.{Numbered}
use Rattle.numbered.specs.Numbered.{plain}
use Rattle.decimal.specs.Decimal.{value, digit}
use Rattle.word.specs.Apply.{div}
use Rattle.token.specs.Code.Places.{first}
use Rattle.grammar.specs.Tree.{Tree, num, bin}
use Rattle.grammar.specs.Parse.{Env, lookup, Parse, symbol, is_operator_at, operator, joined, closed, nested, atom, parse_f, more_f, enough, factor, expression}
use Rattle.grammar.specs.Grammar.{levels}
use Rattle.grammar.specs.Code.Operator.{level_of}
use Rattle.grammar.specs.Code.Reads.{Reads, Refuses}

-- the token of a sign
abbrev pub sign_token : ℕ → List ℕ
sign_token a = cond (eqb a 61) (61 ∷ 61 ∷ []) (a ∷ [])

pub lone_is : (w : List ℕ) (a : ℕ) → 0 < a → symbol w ≡ a → w ≡ sign_token a
lone_is [] a h e = absurd (omega arith)
lone_is (b ∷ []) a h e =
    by_bool (eqb b 61)
    (λ p. absurd (let q : 0 ≡ a = sym (simp p) ∙ e in omega arith))
    (λ p. let q : b ≡ a = sym (simp p) ∙ e in rw (← q) (simp p))
lone_is (b ∷ c ∷ []) a h e =
    by_bool (eqb b 61 && eqb c 61)
    (λ p.
    let q : 61 ≡ a = sym (simp p) ∙ e in
    rw (← q, eqb-true b 61 (and_left (eqb b 61) (eqb c 61) p), eqb-true c 61 (and_right (eqb b 61) (eqb c 61) p)) refl)
    (λ p. absurd (let q : 0 ≡ a = sym (simp p) ∙ e in omega arith))
lone_is (b ∷ c ∷ d ∷ w) a h e = absurd (omega arith)

-- an operator joins to one level alone
pub level_low : (l a : ℕ) → is_operator_at l a ≡ true → l ≤ levels
level_low zero a e = omega arith
level_low (suc zero) a e = omega arith
level_low (suc (suc zero)) a e = omega arith
level_low (suc (suc (suc zero))) a e = omega arith
level_low (suc (suc (suc (suc l)))) a e = false_true e

sign_level : (l a x : ℕ) → level_of x ≡ l → eqb a x ≡ true → level_of a ≡ l
sign_level l a x h e = ap level_of (eqb-true a x e) ∙ h

pub level_is : (l a : ℕ) → is_operator_at l a ≡ true → level_of a ≡ l
level_is zero a e = false_true e
level_is (suc zero) a e = by_or (eqb a 42) (eqb a 47) e (sign_level 1 a 42 refl) (sign_level 1 a 47 refl)
level_is (suc (suc zero)) a e = by_or (eqb a 43) (eqb a 45) e (sign_level 2 a 43 refl) (sign_level 2 a 45 refl)
level_is (suc (suc (suc zero))) a e = by_or (eqb a 60) (eqb a 61) e (sign_level 3 a 60 refl) (sign_level 3 a 61 refl)
level_is (suc (suc (suc (suc l)))) a e = false_true e

pub other_level : (l a : ℕ) → (l ≡ level_of a → ⊥) → is_operator_at l a ≡ false
other_level l a h = by_bool (is_operator_at l a) (λ e. absurd (h (sym (level_is l a e)))) (λ e. e)

pub no_level : (l a : ℕ) → levels < level_of a → is_operator_at l a ≡ false
no_level l a h = by_bool (is_operator_at l a) (λ e. absurd (omega (arith, level_is l a e, level_low l a e))) (λ e. e)

-- every sign but the other five is taken for `/`
pub operator-div : (a : ℕ) → (a ≡ 43 → ⊥) → (a ≡ 45 → ⊥) → (a ≡ 42 → ⊥) → (a ≡ 60 → ⊥) → (a ≡ 61 → ⊥) → operator a ≡ div
operator-div a b c d e f = simp (ne_eqb a 43 b, ne_eqb a 45 c, ne_eqb a 42 d, ne_eqb a 60 e, ne_eqb a 61 f)

module _ (env : Env) (l d : ℕ) (ts : List (List ℕ)) where
  -- level l + 1 has read the tree t so far, and rest is left
  pub record Left (t : Tree) (rest : List (List ℕ)) : Type 0 where
    pub fewer : length rest < length ts
    pub same : (f : ℕ) → enough (suc l) ts ≤ f → (e : ℕ) × ((8 * length rest + 1 ≤ e) × (parse_f f (suc l) env d ts ≡ more_f e l env d (t, rest)))

pub more_ends : (f l : ℕ) (env : Env) (d : ℕ) (t : Tree) (rest : List (List ℕ)) → is_operator_at (suc l) (symbol (first rest)) ≡ false → more_f f l env d (t, rest) ≡ is (t, rest)
unfolding parse_f
more_ends zero l env d t rest e = refl
more_ends (suc f) l env d t [] e = refl
more_ends (suc f) l env d t (w ∷ ts) e = rw (e, more_f)

pub more_joins : (f l : ℕ) (env : Env) (d : ℕ) (t : Tree) (w : List ℕ) (ts : List (List ℕ)) → is_operator_at (suc l) (symbol w) ≡ true → more_f (suc f) l env d (t, w ∷ ts) ≡ and_then (parse_f f l env d ts) (λ r. more_f f l env d (joined (operator (symbol w)) t r))
unfolding parse_f
more_joins f l env d t w ts e = rw (e, more_f)

pub level_up : (f l : ℕ) (env : Env) (d : ℕ) (ts : List (List ℕ)) → parse_f (suc f) (suc l) env d ts ≡ and_then (parse_f f l env d ts) (more_f f l env d)
unfolding parse_f
level_up f l env d ts = refl

-- a chain of operands: the first, one more, the end
module _ {env : Env} {l d : ℕ} {ts : List (List ℕ)} where
  pub starts : {t : Tree} {rest : List (List ℕ)} → Reads env l d ts t rest → Left env l d ts t rest
  starts {t} {rest} r = record { fewer = r.fewer; same = go }
    where
      go : (f : ℕ) → enough (suc l) ts ≤ f → (e : ℕ) × ((8 * length rest + 1 ≤ e) × (parse_f f (suc l) env d ts ≡ more_f e l env d (t, rest)))
      go zero h = absurd (omega arith)
      go (suc f) h = (f, (omega (arith, r.fewer), level_up f l env d ts ∙ ap (λ (x : Parse). and_then x (more_f f l env d)) (r.same f (omega arith))))

  pub starts_refused : {n : Numbered} → Refuses env l d ts n → Refuses env (suc l) d ts n
  starts_refused {n} r = record { same = go }
    where
      go : (f : ℕ) → enough (suc l) ts ≤ f → parse_f f (suc l) env d ts ≡ refused n
      go zero h = absurd (omega arith)
      go (suc f) h = level_up f l env d ts ∙ ap (λ (x : Parse). and_then x (more_f f l env d)) (r.same f (omega arith))

  pub stops : {t : Tree} {rest : List (List ℕ)} → is_operator_at (suc l) (symbol (first rest)) ≡ false → Left env l d ts t rest → Reads env (suc l) d ts t rest
  stops {t} {rest} e r = record { fewer = r.fewer; same = λ f h. let s = r.same f h in s.1.1 ∙ more_ends s.0 l env d t rest e }

  module _ {t : Tree} {us : List (List ℕ)} (w : List ℕ) (e : is_operator_at (suc l) (symbol w) ≡ true) (r : Left env l d ts t (w ∷ us)) where
    pub turns : {u : Tree} {rest : List (List ℕ)} → Reads env l d us u rest → Left env l d ts (bin (operator (symbol w)) t u) rest
    turns {u} {rest} q = record { fewer = omega (arith, r.fewer, q.fewer); same = λ f h. go f (r.same f h) }
      where
        go : (f : ℕ) → (e : ℕ) × ((8 * length (w ∷ us) + 1 ≤ e) × (parse_f f (suc l) env d ts ≡ more_f e l env d (t, w ∷ us)))
            → (e : ℕ) × ((8 * length rest + 1 ≤ e) × (parse_f f (suc l) env d ts ≡ more_f e l env d (bin (operator (symbol w)) t u, rest)))
        go f (zero, (h, p)) = absurd (omega arith)
        go f (suc g, (h, p)) = (g, (omega (arith, q.fewer), p ∙ more_joins g l env d t w us e ∙ ap (λ (x : Parse). and_then x (λ r. more_f g l env d (joined (operator (symbol w)) t r))) (q.same g (omega (arith, level_low (suc l) (symbol w) e)))))

    pub turns_refused : {n : Numbered} → Refuses env l d us n → Refuses env (suc l) d ts n
    turns_refused {n} q = record { same = λ f h. go f (r.same f h) }
      where
        go : (f : ℕ) → (e : ℕ) × ((8 * length (w ∷ us) + 1 ≤ e) × (parse_f f (suc l) env d ts ≡ more_f e l env d (t, w ∷ us))) → parse_f f (suc l) env d ts ≡ refused n
        go f (zero, (h, p)) = absurd (omega arith)
        go f (suc g, (h, p)) = p ∙ more_joins g l env d t w us e ∙ ap (λ (x : Parse). and_then x (λ r. more_f g l env d (joined (operator (symbol w)) t r))) (q.same g (omega (arith, level_low (suc l) (symbol w) e)))

-- a factor: one step of the definition
module _ (f : ℕ) (env : Env) (w : List ℕ) (ts : List (List ℕ)) where
  pub factor_opens : (d : ℕ) → symbol w ≡ 40 → parse_f (suc f) factor env d (w ∷ ts) ≡ nested d (λ e. parse_f f expression env e ts)
  unfolding parse_f
  factor_opens d e = rw (eq-eqb (symbol w) 40 e, parse_f)

  pub factor_atom : (d : ℕ) → (symbol w ≡ 40 → ⊥) → parse_f (suc f) factor env d (w ∷ ts) ≡ and_then (atom env w) (λ t. is (t, ts))
  unfolding parse_f
  factor_atom d e = rw (ne_eqb (symbol w) 40 e, parse_f)

pub ended : (env : Env) (d : ℕ) → Refuses env factor d [] (plain 14)
unfolding parse_f
ended env d = record { same = go }
  where
    go : (f : ℕ) → enough factor [] ≤ f → parse_f f factor env d [] ≡ refused (plain 14)
    go zero h = refl
    go (suc f) h = refl

-- a parenthesis
module _ (env : Env) (w : List ℕ) (us : List (List ℕ)) (o : symbol w ≡ 40) where
  pub too_deep : Refuses env factor zero (w ∷ us) (plain 18)
  too_deep = record { same = go }
    where
      go : (f : ℕ) → enough factor (w ∷ us) ≤ f → parse_f f factor env zero (w ∷ us) ≡ refused (plain 18)
      go zero h = absurd (omega arith)
      go (suc f) h = factor_opens f env w us zero o

  module _ (d : ℕ) where
    inner : (f : ℕ) (r : Parse) → ((g : ℕ) → enough expression us ≤ g → parse_f g expression env d us ≡ r) → enough factor (w ∷ us) ≤ f → parse_f f factor env (suc d) (w ∷ us) ≡ and_then r closed
    inner zero r q h = absurd (omega arith)
    inner (suc f) r q h = factor_opens f env w us (suc d) o ∙ ap (λ (x : Parse). and_then x closed) (q f (omega arith))

    pub opened_refused : {n : Numbered} → Refuses env expression d us n → Refuses env factor (suc d) (w ∷ us) n
    opened_refused r = record { same = λ f h. inner f _ r.same h }

    pub unclosed : {t : Tree} → Reads env expression d us t [] → Refuses env factor (suc d) (w ∷ us) (plain 14)
    unclosed r = record { same = λ f h. inner f _ r.same h }

    module _ {t : Tree} (v : List ℕ) {rest : List (List ℕ)} (r : Reads env expression d us t (v ∷ rest)) where
      pub closes : symbol v ≡ 41 → Reads env factor (suc d) (w ∷ us) t rest
      closes e = record { fewer = omega (arith, r.fewer); same = λ f h. inner f _ r.same h ∙ simp (eq-eqb (symbol v) 41 e) }

      pub not-closed : (symbol v ≡ 41 → ⊥) → Refuses env factor (suc d) (w ∷ us) (plain 15)
      not-closed e = record { same = λ f h. inner f _ r.same h ∙ simp (ne_eqb (symbol v) 41 e) }

-- a factor of one token
module _ (env : Env) (d : ℕ) (w : List ℕ) (us : List (List ℕ)) (o : symbol w ≡ 40 → ⊥) where
  one : (f : ℕ) → enough factor (w ∷ us) ≤ f → parse_f f factor env d (w ∷ us) ≡ and_then (atom env w) (λ t. is (t, us))
  one zero h = absurd (omega arith)
  one (suc f) h = factor_atom f env w us d o

  pub number_read : all digit w ≡ true → value w < 2 ^ 64 → Reads env factor d (w ∷ us) (num (value w)) us
  number_read e h = record { fewer = omega arith; same = λ f g. one f g ∙ simp (e, lt-ltb (value w) (2 ^ 64) h) }

  pub number_refused : all digit w ≡ true → 2 ^ 64 ≤ value w → Refuses env factor d (w ∷ us) (plain 16)
  number_refused e h = record { same = λ f g. one f g ∙ simp (e, le-ltb (value w) (2 ^ 64) h) }

  pub name_read_lem : all digit w ≡ false → {t : Tree} → lookup w env ≡ Some t → Reads env factor d (w ∷ us) t us
  name_read_lem e h = record { fewer = omega arith; same = λ f g. one f g ∙ simp (e, h) }

  pub name_refused : all digit w ≡ false → lookup w env ≡ None → Refuses env factor d (w ∷ us) (plain 17)
  name_refused e h = record { same = λ f g. one f g ∙ simp (e, h) }
