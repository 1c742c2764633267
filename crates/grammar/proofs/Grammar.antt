-- What the parser accepts is derivable with that tree, and what is derivable within 64 parentheses is accepted with that tree.
use Prim.Native.Nat.{ℕ, zero, suc, ◌^◌, ◌<◌, ◌≤◌}
use mathlib.Core.Path.{◌≡◌, refl, sym, ap, subst, ◌∙◌}
use mathlib.Core.List.{List, [], ◌∷◌, ◌++◌, append-nil, append_assoc}
use mathlib.Core.Bool.{true, false}
use Rattle.std.specs.Prelude.{Option, Some, None}
use mathlib.Core.Logic.{◌↔◌}
use native.Mathlib.Omega.{arith}
use borrow.Author.Tests.{ltb-true, eqb-true, eqb-false}
use lib.Dec.{eqb, ltb}
use lib.ListN.{length}
use Rattle.numbered.specs.declared.Numbered.{Numbered}
use Rattle.numbered.specs.Numbered.{plain}
use Rattle.base.specs.Outcome.{Outcome, is, refused, and_then}
use Rattle.base.specs.Lists.{all}
use Rattle.base.proofs.Tests.{false_true, by_bool, by_or}
use Rattle.base.proofs.Outcome.{not_is, is_same, then_is}
use Rattle.word.specs.Apply.{Binary, add, sub, mul, div, eq, lt}
use Rattle.decimal.specs.Decimal.{digit, value}
use Rattle.token.specs.Token.{allowed, tokens}
use Rattle.token.specs.Code.Places.{first}
use Rattle.token.specs.Tokens.{IsToken, Tokens}
use Rattle.token.specs.Tokens as Tokens
use Rattle.token.proofs.LongestMatch.{longest_match}
use Rattle.grammar.specs.Tree.{Tree, num, bin}
use Rattle.grammar.specs.Environment.{Env, lookup}
use Rattle.grammar.specs.Grammar.{factor, expression, Operator, times, over, plus, minus, less, equals, Derives, number, name, parentheses, alone, join, depth}
use Rattle.grammar.specs.Parse.{Parse, symbol, is_operator_at, operator, joined, closed, nested, named, atom, parse_f, more_f, enough, parsed, all_read, meaning}
use Rattle.grammar.specs.Code.Reads.{Reads}
use Rattle.grammar.proofs.Steps.{sign_token, lone_is, level_is, other_level, no_level, Left, starts, turns, stops, closes, number_read, name_read_lem, more_ends, more_joins, level_up, factor_opens, factor_atom}

not_tree : {P : Type 0} (n : ℕ) (t : Tree) → refused (plain n) ≡ is t → P
not_tree n t e = not_is e

-- what is read of ts is derivable
pub record Read (env : Env) (l d : ℕ) (ts : List (List ℕ)) (t : Tree) (rest : List (List ℕ)) : Type 0 where
  pub used : List (List ℕ)
  pub parts : ts ≡ used ++ rest
  pub derives : Derives env l d used t

-- the parser's tables are those of the grammar
pub operator_is : {l : ℕ} {w : List ℕ} {op : Binary} → Operator l w op → (is_operator_at l (symbol w) ≡ true) × (operator (symbol w) ≡ op)
operator_is times = (refl, refl)
operator_is over = (refl, refl)
operator_is plus = (refl, refl)
operator_is minus = (refl, refl)
operator_is less = (refl, refl)
operator_is equals = (refl, refl)

sign_is : (l : ℕ) (w : List ℕ) (a : ℕ) (op : Binary) → 0 < a → Operator l (sign_token a) op → operator a ≡ op → eqb (symbol w) a ≡ true → Operator l w (operator (symbol w))
sign_is l w a op h o e q =
    let p = eqb-true (symbol w) a q in
    subst (λ (x : Binary). Operator l w x) (sym (ap operator p ∙ e)) (subst (λ (x : List ℕ). Operator l x op) (sym (lone_is w a h p)) o)

operator_of_lem : (l : ℕ) (w : List ℕ) → is_operator_at l (symbol w) ≡ true → Operator l w (operator (symbol w))
operator_of_lem zero w j = false_true j
operator_of_lem (suc zero) w j = by_or (eqb (symbol w) 42) (eqb (symbol w) 47) j (sign_is 1 w 42 mul (omega arith) times refl) (sign_is 1 w 47 div (omega arith) over refl)
operator_of_lem (suc (suc zero)) w j = by_or (eqb (symbol w) 43) (eqb (symbol w) 45) j (sign_is 2 w 43 add (omega arith) plus refl) (sign_is 2 w 45 sub (omega arith) minus refl)
operator_of_lem (suc (suc (suc zero))) w j = by_or (eqb (symbol w) 60) (eqb (symbol w) 61) j (sign_is 3 w 60 lt (omega arith) less refl) (sign_is 3 w 61 eq (omega arith) equals refl)
operator_of_lem (suc (suc (suc (suc l)))) w j = false_true j

-- no token is empty
abbrev NoneEmpty : List (List ℕ) → Type 0
NoneEmpty [] = Unit {0}
NoneEmpty (w ∷ ts) = (0 < length w) × NoneEmpty ts

not_empty_behind : (ts us : List (List ℕ)) → NoneEmpty (ts ++ us) → NoneEmpty us
not_empty_behind [] us h = h
not_empty_behind (w ∷ ts) us h = not_empty_behind ts us h.1

not_empty : {w : List ℕ} → IsToken w → 0 < length w
not_empty (Tokens.digits h e) = h
not_empty (Tokens.name e f) = omega arith
not_empty (Tokens.single e) = omega arith
not_empty Tokens.pair = omega arith

tokens_not_empty : {s : List ℕ} {ts : List (List ℕ)} → Tokens s ts → NoneEmpty ts
tokens_not_empty Tokens.none = tt
tokens_not_empty (Tokens.parted e h) = tokens_not_empty h
tokens_not_empty (Tokens.token t l h) = (not_empty t, tokens_not_empty h)

-- a literal is no parenthesis
pub digits_no_parenthesis : (w : List ℕ) → all digit w ≡ true → symbol w ≡ 40 → ⊥
digits_no_parenthesis w e o =
    let p = lone_is w 40 (omega arith) o in
    let q : all digit (40 ∷ []) ≡ true = sym (ap (all digit) p) ∙ e in
    false_true q

module _ (env : Env) where
  abbrev Sound : ℕ → Type 0
  Sound f = (l d : ℕ) (ts : List (List ℕ)) (t : Tree) (rest : List (List ℕ)) → NoneEmpty ts → parse_f f l env d ts ≡ is (t, rest) → Read env l d ts t rest

  abbrev SoundMore : ℕ → Type 0
  SoundMore f = (l d : ℕ) (us ts : List (List ℕ)) (t u : Tree) (rest : List (List ℕ)) → NoneEmpty ts → Derives env (suc l) d us t → more_f f l env d (t, ts) ≡ is (u, rest) → Read env (suc l) d (us ++ ts) u rest

  -- a factor of one token
  atom_derives : (d : ℕ) (w : List ℕ) (t : Tree) → 0 < length w → (symbol w ≡ 40 → ⊥) → atom env w ≡ is t → Derives env factor d (w ∷ []) t
  atom_derives d w t b o e =
      by_bool (all digit w)
      (λ a. by_bool (ltb (value w) (2 ^ 64))
      (λ h. same (num (value w)) (simp (a, h) at e) (number b a (ltb-true (value w) (2 ^ 64) h)))
      (λ h. not_tree 16 t (simp (a, h) at e)))
      (λ a. found a (lookup w env) refl (simp a at e))
    where
      same : (u : Tree) → ◌≡◌ {A = Outcome Numbered Tree} (is u) (is t) → Derives env factor d (w ∷ []) u → Derives env factor d (w ∷ []) t
      same u p h = subst (Derives env factor d (w ∷ [])) (is_same p) h

      found : all digit w ≡ false → (o : Option Tree) → lookup w env ≡ o → named (lookup w env) ≡ is t → Derives env factor d (w ∷ []) t
      found a None q p = not_tree 17 t (rw q at p)
      found a (Some u) q p = same u (rw q at p) (name (λ x. o (ap symbol x)) a q)

  atom_sound : (d : ℕ) (w : List ℕ) (ts : List (List ℕ)) (t : Tree) (rest : List (List ℕ)) → 0 < length w → (symbol w ≡ 40 → ⊥) → ◌≡◌ {A = Parse} (and_then (atom env w) (λ u. is (u, ts))) (is (t, rest)) → Read env factor d (w ∷ ts) t rest
  atom_sound d w ts t rest b o e =
      let c = then_is {B = Tree × List (List ℕ)} (atom env w) (λ u. is (u, ts)) e in
      let p = is_same c.2 in
      record {
        used = w ∷ [];
        parts = ap (λ (r : Tree × List (List ℕ)). w ∷ r.1) p;
        derives = subst (λ (r : Tree × List (List ℕ)). Derives env factor d (w ∷ []) r.0) p (atom_derives d w c.0 b o c.1);
      }

  closed_is : (r : Parse) (t : Tree) (rest : List (List ℕ)) → and_then r closed ≡ is (t, rest) → (w : List ℕ) × ((symbol w ≡ 41) × (r ≡ is (t, w ∷ rest)))
  closed_is (refused n) t rest e = not_is e
  closed_is (is (u, [])) t rest e = not_is e
  closed_is (is (u, w ∷ ts)) t rest e =
      by_bool (eqb (symbol w) 41)
      (λ h. let p : ◌≡◌ {A = Parse} (is (u, ts)) (is (t, rest)) = simp h at e in (w, (eqb-true (symbol w) 41 h, ap (λ (r : Tree × List (List ℕ)). is (r.0, w ∷ r.1)) (is_same p))))
      (λ h. let p : refused (plain 15) ≡ is (t, rest) = simp h at e in not_is p)

  parentheses_sound : (f d : ℕ) (w : List ℕ) (ts : List (List ℕ)) (t : Tree) (rest : List (List ℕ)) → Sound f → NoneEmpty ts → symbol w ≡ 40 → nested d (λ e. parse_f f expression env e ts) ≡ is (t, rest) → Read env factor d (w ∷ ts) t rest
  parentheses_sound f zero w ts t rest ih b o e = not_is e
  parentheses_sound f (suc d) w ts t rest ih b o e =
      let c = closed_is (parse_f f expression env d ts) t rest e in
      let r = ih expression d ts t (c.0 ∷ rest) b c.1.1 in
      record {
        used = (40 ∷ []) ∷ r.used ++ (41 ∷ []) ∷ [];
        parts = rw (lone_is w 40 (omega arith) o, append_assoc) (ap (λ (x : List (List ℕ)). (40 ∷ []) ∷ x) (r.parts ∙ ap (λ (v : List ℕ). r.used ++ v ∷ rest) (lone_is c.0 41 (omega arith) c.1.0)));
        derives = parentheses r.derives;
      }

  factor_sound : (f d : ℕ) (ts : List (List ℕ)) (t : Tree) (rest : List (List ℕ)) → Sound f → NoneEmpty ts → parse_f (suc f) factor env d ts ≡ is (t, rest) → Read env factor d ts t rest
  unfolding parse_f
  factor_sound f d [] t rest ih b e = not_is e
  factor_sound f d (w ∷ ts) t rest ih b e =
      by_bool (eqb (symbol w) 40)
      (λ h. let o = eqb-true (symbol w) 40 h in parentheses_sound f d w ts t rest ih b.1 o (sym (factor_opens f env w ts d o) ∙ e))
      (λ h. let o = eqb-false (symbol w) 40 h in atom_sound d w ts t rest b.0 o (sym (factor_atom f env w ts d o) ∙ e))

  level_sound : (f l d : ℕ) (ts : List (List ℕ)) (t : Tree) (rest : List (List ℕ)) → Sound f → SoundMore f → NoneEmpty ts → parse_f (suc f) (suc l) env d ts ≡ is (t, rest) → Read env (suc l) d ts t rest
  level_sound f l d ts t rest ih more b e =
      let c = then_is (parse_f f l env d ts) (more_f f l env d) (sym (level_up f l env d ts) ∙ e) in
      go c.0 c.1 c.2
    where
      go : (r : Tree × List (List ℕ)) → parse_f f l env d ts ≡ is r → more_f f l env d r ≡ is (t, rest) → Read env (suc l) d ts t rest
      go (u, us) q m =
          let r = ih l d ts u us b q in
          let s = more l d r.used us u t rest (not_empty_behind r.used us (subst NoneEmpty r.parts b)) (alone r.derives) m in
          record { used = s.used; parts = r.parts ∙ s.parts; derives = s.derives }

  ends_sound : (l d : ℕ) (us ts : List (List ℕ)) (t u : Tree) (rest : List (List ℕ)) → Derives env (suc l) d us t → ◌≡◌ {A = Parse} (is (t, ts)) (is (u, rest)) → Read env (suc l) d (us ++ ts) u rest
  ends_sound l d us ts t u rest h e =
      let p = is_same e in
      record { used = us; parts = ap (λ (r : Tree × List (List ℕ)). us ++ r.1) p; derives = subst (λ (r : Tree × List (List ℕ)). Derives env (suc l) d us r.0) p h }

  more_sound : (f l d : ℕ) (us ts : List (List ℕ)) (t u : Tree) (rest : List (List ℕ)) → Sound f → SoundMore f → NoneEmpty ts → Derives env (suc l) d us t → more_f (suc f) l env d (t, ts) ≡ is (u, rest) → Read env (suc l) d (us ++ ts) u rest
  unfolding parse_f
  more_sound f l d us [] t u rest ih more b h e = ends_sound l d us [] t u rest h e
  more_sound f l d us (w ∷ ts) t u rest ih more b h e =
      by_bool (is_operator_at (suc l) (symbol w))
      (λ j. let c = then_is (parse_f f l env d ts) (λ r. more_f f l env d (joined (operator (symbol w)) t r)) (sym (more_joins f l env d t w ts j) ∙ e) in go j c.0 c.1 c.2)
      (λ j. ends_sound l d us (w ∷ ts) t u rest h (sym (more_ends (suc f) l env d t (w ∷ ts) j) ∙ e))
    where
      go : is_operator_at (suc l) (symbol w) ≡ true → (r : Tree × List (List ℕ)) → parse_f f l env d ts ≡ is r → more_f f l env d (joined (operator (symbol w)) t r) ≡ is (u, rest) → Read env (suc l) d (us ++ w ∷ ts) u rest
      go j (v, vs) q m =
          let r = ih l d ts v vs b.1 q in
          let s = more l d (us ++ w ∷ r.used) vs (bin (operator (symbol w)) t v) u rest (not_empty_behind r.used vs (subst NoneEmpty r.parts b.1)) (join h (operator_of_lem (suc l) w j) r.derives) m in
          record {
            used = s.used;
            parts = ap (λ (x : List (List ℕ)). us ++ w ∷ x) r.parts ∙ sym (append_assoc us (w ∷ r.used) vs) ∙ s.parts;
            derives = s.derives;
          }

  both_sound : (f : ℕ) → Sound f × SoundMore f
  unfolding parse_f
  both_sound zero = (λ l d ts t rest b e. not_is e, λ l d us ts t u rest b h e. ends_sound l d us ts t u rest h e)
  both_sound (suc f) = let ih = both_sound f in (each ih.0 ih.1, λ l d us ts t u rest b h e. more_sound f l d us ts t u rest ih.0 ih.1 b h e)
    where
      each : Sound f → SoundMore f → Sound (suc f)
      each ih more zero d ts t rest b e = factor_sound f d ts t rest ih b e
      each ih more (suc l) d ts t rest b e = level_sound f l d ts t rest ih more b e

  -- no operator of level l or a tighter one stands first
  abbrev Stops : ℕ → List (List ℕ) → Type 0
  Stops zero rest = Unit {0}
  Stops (suc l) rest = (is_operator_at (suc l) (symbol (first rest)) ≡ false) × Stops l rest

  -- behind what is derivable the parser has its tree: a factor is read, a chain of operands may go on
  abbrev Complete : ℕ → ℕ → List (List ℕ) → Tree → Type 0
  Complete zero d ts t = (rest : List (List ℕ)) → Reads env factor d (ts ++ rest) t rest
  Complete (suc l) d ts t = (rest : List (List ℕ)) → Stops l rest → Left env l d (ts ++ rest) t rest

  full : (l d : ℕ) (ts : List (List ℕ)) (t : Tree) → Complete l d ts t → (rest : List (List ℕ)) → Stops l rest → Reads env l d (ts ++ rest) t rest
  full zero d ts t h rest s = h rest
  full (suc l) d ts t h rest s = stops s.0 (h rest s.1)

  stops_at : (l : ℕ) (rest : List (List ℕ)) → ((m : ℕ) → m ≤ l → is_operator_at m (symbol (first rest)) ≡ false) → Stops l rest
  stops_at zero rest h = tt
  stops_at (suc l) rest h = (h (suc l) (omega arith), stops_at l rest (λ m g. h m (omega arith)))

  operator_stops : (l : ℕ) (w : List ℕ) (ts : List (List ℕ)) → is_operator_at (suc l) (symbol w) ≡ true → Stops l (w ∷ ts)
  operator_stops l w ts j = stops_at l (w ∷ ts) (λ m h. other_level m (symbol w) (λ e. omega (arith, level_is (suc l) (symbol w) j)))

  complete : {l d : ℕ} {ts : List (List ℕ)} {t : Tree} → Derives env l d ts t → Complete l d ts t
  complete (number {d} {w} b a h) = λ rest. number_read env d w rest (digits_no_parenthesis w a) a h
  complete (name {d} {w} {t} o a h) = λ rest. name_read_lem env d w rest (λ e. o (lone_is w 40 (omega arith) e)) a h
  complete (parentheses {d} {ts} {t} h) = λ rest.
      let r = full expression d ts t (complete h) ((41 ∷ []) ∷ rest) (stops_at expression ((41 ∷ []) ∷ rest) (λ m g. no_level m 41 (omega arith))) in
      rw append_assoc (closes env (40 ∷ []) (ts ++ (41 ∷ []) ∷ rest) refl d (41 ∷ []) r refl)
  complete (alone {l} {d} {ts} {t} h) = λ rest s. starts (full l d ts t (complete h) rest s)
  complete (join {l} {d} {ts} {us} {w} {op} {t} {u} h o g) = λ rest s.
      let j = operator_is o in
      subst (λ (x : Binary). Left env l d ((ts ++ w ∷ us) ++ rest) (bin x t u) rest) j.1
      (rw append_assoc (turns w j.0 (complete h (w ∷ us ++ rest) (operator_stops l w (us ++ rest) j.0)) (full l d us u (complete g) rest s)))

-- the tokens of an accepted expression, and those of a derivable one
accepted_derives : (env : Env) (ts : List (List ℕ)) (t : Tree) → NoneEmpty ts → parsed env ts ≡ is (t, []) → Derives env expression depth ts t
accepted_derives env ts t b e =
    let r = (both_sound env (enough expression ts)).0 expression depth ts t [] b e in
    subst (λ (x : List (List ℕ)). Derives env expression depth x t) (sym (r.parts ∙ append-nil r.used)) r.derives

derives_accepted : (env : Env) (ts : List (List ℕ)) (t : Tree) → Derives env expression depth ts t → parsed env ts ≡ is (t, [])
derives_accepted env ts t h =
    let r = full env expression depth ts t (complete env h) [] (stops_at env expression [] (λ m g. no_level m 0 (omega arith))) in
    let e = append-nil ts in
    subst (λ (x : List (List ℕ)). parsed env x ≡ is (t, [])) e (r.same (enough expression (ts ++ [])) (omega arith))

whole_is : (r : Parse) (t : Tree) → and_then r all_read ≡ is t → r ≡ is (t, [])
whole_is (is (u, [])) t e = ap (λ (x : Tree). is (x, [])) (is_same e)
whole_is (is (u, w ∷ ts)) t e = not_is e
whole_is (refused n) t e = not_is e

pub meaning_whole : (env : Env) (s : List ℕ) → allowed s ≡ true → meaning env s ≡ and_then (parsed env (tokens s)) all_read
unfolding meaning
meaning_whole env s a = rw (a, meaning)

pub meaning-not_allowed : (env : Env) (s : List ℕ) → allowed s ≡ false → meaning env s ≡ refused (plain 13)
unfolding meaning
meaning-not_allowed env s a = rw (a, meaning)

-- a tree that a text means, by the tokens that the parser reads
pub meaning_derives : (env : Env) (s : List ℕ) (t : Tree) → meaning env s ≡ is t → (Tokens s (tokens s)) × Derives env expression depth (tokens s) t
meaning_derives env s t e =
    by_bool (allowed s)
    (λ a. let h = (longest_match s (tokens s)).1 (a, refl) in (h, accepted_derives env (tokens s) t (tokens_not_empty h) (whole_is (parsed env (tokens s)) t (sym (meaning_whole env s a) ∙ e))))
    (λ a. not_tree 13 t (sym (meaning-not_allowed env s a) ∙ e))

-- a text means the tree t exactly where its tokens are an expression with that tree, with at most 64 parentheses open at once
pub grammar : (env : Env) (s : List ℕ) (t : Tree) → (meaning env s ≡ is t) ↔ ((ts : List (List ℕ)) × (Tokens s ts × Derives env expression depth ts t))
grammar env s t = (λ e. (tokens s, meaning_derives env s t e), λ h. back h.0 h.1.0 h.1.1)
  where
    back : (ts : List (List ℕ)) → Tokens s ts → Derives env expression depth ts t → meaning env s ≡ is t
    back ts k h =
        let l = (longest_match s ts).0 k in
        meaning_whole env s l.0 ∙ ap (λ (x : List (List ℕ)). and_then (parsed env x) all_read) l.1 ∙ ap (λ (r : Parse). and_then r all_read) (derives_accepted env ts t h)

-- tokens are an expression with one tree alone
pub unique : (env : Env) (ts : List (List ℕ)) (t u : Tree) → Derives env expression depth ts t → Derives env expression depth ts u → t ≡ u
unique env ts t u g h = ap (λ (r : Tree × List (List ℕ)). r.0) (is_same (sym (derives_accepted env ts t g) ∙ derives_accepted env ts u h))
