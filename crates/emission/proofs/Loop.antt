-- The loop over an expression's tokens: what is written so far, and the walk over the rest.
use Prim.Native.Nat.{ℕ, ◌+◌, ◌-◌, ◌<◌, ◌≤◌}
use mathlib.Core.Path.{◌≡◌, refl, sym, ap, subst, ◌∙◌}
use mathlib.Core.List.{List, [], ◌∷◌, ◌++◌, append-nil, append_assoc}
use mathlib.Core.Bool.{Bool, true, false}
use native.Mathlib.Omega.{arith}
use lib.ListN.{length, get_or, take, drop, length-append, length-set, drop_of_length-le}
use lib.Seq.{length-take-le}
use borrow.Author.Tests.{eq-eqb, ne_eqb}
use Rattle.base.specs.Outcome.{is}
use Rattle.base.specs.Code.Stack.{stack_of}
use Rattle.base.proofs.Parts.{take-drop_slice}
use Rattle.base.proofs.Stack.{length_stack}
use Rattle.token.specs.Token.{tokens, scan}
use Rattle.token.specs.Code.Places.{end_at}
use Rattle.grammar.specs.Tree.{num}
use Rattle.grammar.specs.Grammar.{levels}
use Rattle.grammar.specs.Parse.{meaning}
use Rattle.bindings.specs.Code.Source.{Sources, tree_or0, expression_of, env_of, tree_of, AllInText}
use Rattle.grammar.specs.Code.Texts.{text_of}
use Rattle.writer.specs.Code.Overwrites.{Overwrites}
use Rattle.emission.specs.Code.Lines.{push_text, operators_text}
use Rattle.writer.proofs.Pieces.{overwrites_none, overwrites_then, overwrites_length}
use Rattle.std.specs.Prelude.{Option, None, Ok, Err, map}
use Rattle.base.specs.declared.span.Span.{Span}
use Rattle.expression.specs.declared.ExprError.{ExprError}
use Rattle.expression.specs.declared.factors.Factor.{Factor}
use Rattle.expression.specs.declared.factors.Factor.TheVariants.{Open, Literal, Name}
use Rattle.expression.specs.declared.factors.FactorAt.{FactorAt}
use Rattle.emission.specs.declared.operator.Turn.{Turn}
use Rattle.expression.specs.Code.Factor.{first_factor, factor_at}
use Rattle.emission.specs.declared.waiting.Waiting.{Waiting}
use Rattle.emission.specs.Code.Waiting.{most, sign_of, popped, stack, pushed, none_waiting, Holds}
use Rattle.emission.specs.Code.Turn.{symbol_at, down_to, CanTurn, Turns}
use Rattle.emission.specs.Code.Emitted.{tree_between, MeansTree, KeepsWritten}
use Rattle.emission.proofs.Stack.{text_num, stack_pushed}
use Rattle.expression.proofs.FirstToken.{ended_as, ended_refused}
use Rattle.emission.proofs.Walk.{Walks}
use Rattle.emission.proofs.Postfix.{postfix}
use Rattle.emission.proofs.WalkStep.{token_past, Factored, onward, Operated, factor_step, operator_step}

module _ (s : List ℕ) (c : Sources) (count end : ℕ) (whole out₀ : List ℕ) (at : ℕ) where
  pub record Going (out : List ℕ) (to : ℕ) (waiting : Waiting) (i : ℕ) (due : Bool) : Type 0 where
    pub o : List ℕ
    pub rest : List ℕ
    pub all : o ++ rest ≡ whole
    pub put : Overwrites out₀ at o out to
    pub holds : Holds waiting
    pub walks : Walks (env_of s c count) due (stack waiting) (tokens (drop i (take end s))) rest

  -- what does not change
  pub record Fixed : Type 0 where
    pub stand : AllInText s c count
    pub inside : end ≤ length s
    pub room : at + length whole ≤ length out₀

-- the loop's invariant
pub record Running (s : List ℕ) (c : Sources) (count start end : ℕ) (out₀ : List ℕ) (at : ℕ) (out : List ℕ) (to : ℕ) (waiting : Waiting) (i : ℕ) (due : Bool) (pieces : List (Option Span)) : Type 0 where
  pub fixed : Fixed s c count end (text_of (tree_between s c count start end)) out₀ at
  pub going : Going s c count end (text_of (tree_between s c count start end)) out₀ at out to waiting i due
  pub kept : KeepsWritten s c out to pieces

pub running_as : {s : List ℕ} {c : Sources} {count start end : ℕ} {out₀ : List ℕ} {at : ℕ} {out : List ℕ} {to : ℕ} {waiting : Waiting} {i : ℕ} {due d : Bool} {pieces : List (Option Span)} → Running s c count start end out₀ at out to waiting i due pieces → due ≡ d → Running s c count start end out₀ at out to waiting i d pieces
running_as {s} {c} {count} {start} {end} {out₀} {at} {out} {to} {waiting} {i} {due} {d} {pieces} r e = subst (λ (b : Bool). Running s c count start end out₀ at out to waiting i b pieces) e r

-- a token is behind the place, or the end is
past : (s : List ℕ) (end i : ℕ) → end ≤ length s → i < end → {j : ℕ} → j ≡ end_at (take end s) i → end - j < end - i
past s end i h l e = omega (arith, token_past (take end s) i (omega (arith, length-take-le end s h)))

-- it starts with nothing written
pub going_starts : {s : List ℕ} {c : Sources} {count start end : ℕ} {out : List ℕ} {at : ℕ} → MeansTree s c count start end → Going s c count end (text_of (tree_between s c count start end)) out at out at none_waiting start true
unfolding stack_of
going_starts {s} {c} {count} {start} {end} {out} {at} m = record {
  o = [];
  rest = text_of (tree_between s c count start end);
  all = refl;
  put = overwrites_none out at;
  holds = record { few = omega arith; full = refl };
  walks = postfix (env_of s c count) (drop start (take end s)) (tree_between s c count start end) m.is;
}

pub running_starts : {s : List ℕ} {c : Sources} {count start end : ℕ} {out : List ℕ} {at : ℕ} {pieces : List (Option Span)} → MeansTree s c count start end → at + length (text_of (tree_between s c count start end)) ≤ length out → KeepsWritten s c out at pieces → Running s c count start end out at out at none_waiting start true pieces
running_starts m r k = record { fixed = record { stand = m.stand; inside = m.inside; room = r }; going = going_starts m; kept = k }

module _ {s : List ℕ} {c : Sources} {count end : ℕ} {whole out₀ : List ℕ} {at : ℕ} (x : Fixed s c count end whole out₀ at) {out : List ℕ} {to : ℕ} {waiting : Waiting} {i : ℕ} where
  module _ {due : Bool} (g : Going s c count end whole out₀ at out to waiting i due) where
    written : length g.o + length g.rest ≡ length whole
    written = sym (length-append g.o g.rest) ∙ ap length g.all

    pub going_length : length out ≡ length out₀
    going_length = overwrites_length g.put (omega (arith, written, x.room))

    -- a piece of the rest
    module _ (piece more : List ℕ) (e : g.rest ≡ piece ++ more) where
      part : length g.o + (length piece + length more) ≡ length whole
      part = omega (arith, written, ap length e, length-append piece more)

      pub fits : to + length piece ≤ length out
      fits = omega (arith, going_length, g.put.next, x.room, part)

      goes : {new : List ℕ} {r : ℕ} → Overwrites out to piece new r → {waiting' : Waiting} {i' : ℕ} {due' : Bool} → Holds waiting' → Walks (env_of s c count) due' (stack waiting') (tokens (drop i' (take end s))) more → Going s c count end whole out₀ at new r waiting' i' due'
      goes {new} {r} p h w = record {
        o = g.o ++ piece;
        rest = more;
        all = append_assoc g.o piece more ∙ ap (λ (y : List ℕ). g.o ++ y) (sym e) ∙ g.all;
        put = overwrites_then g.put (omega (arith, x.room, part)) p;
        holds = h;
        walks = w;
      }

  -- a factor
  module _ (g : Going s c count end whole out₀ at out to waiting i true) where
    step : Factored s c count (onward s c count (take end s) i (stack waiting) g.rest) (stack waiting) g.rest (first_factor s count c.names c.lens c.tags (tokens (drop i (take end s))))
    step = factor_step s c count x.stand (take end s) i (stack waiting) g.rest g.walks

    pub no_factor : {x : ExprError} → factor_at s (take end s) i count c.names c.lens c.tags ≡ Err x → ⊥
    no_factor e = rw (ended_refused _ _ e) at step

  module _ (g : Going s c count end whole out₀ at out to waiting i true) {next : FactorAt} (e : factor_at s (take end s) i count c.names c.lens c.tags ≡ Ok next) where
    behind : next.end ≡ end_at (take end s) i
    behind = (ended_as _ _ e).1

    read : (f : Factor) → next.factor ≡ f → Factored s c count (onward s c count (take end s) i (stack waiting) g.rest) (stack waiting) g.rest (Ok f)
    read f q = subst (Factored s c count (onward s c count (take end s) i (stack waiting) g.rest) (stack waiting) g.rest) ((ended_as _ _ e).0 ∙ ap Ok q) (step g)

    there : (due : Bool) (st o : List ℕ) → Walks (env_of s c count) due st (tokens (drop (end_at (take end s) i) (take end s))) o → Walks (env_of s c count) due st (tokens (drop next.end (take end s))) o
    there due st o w = subst (λ (j : ℕ). Walks (env_of s c count) due st (tokens (drop j (take end s))) o) (sym behind) w

    pub factor_past : i < end → end - next.end < end - i
    factor_past l = past s end i x.inside l behind

    pub open_room : next.factor ≡ Open → waiting.count < most
    open_room q = omega (arith, (read Open q).0, length_stack (map sign_of waiting.operators) waiting.count)

    pub opened : next.factor ≡ Open → Going s c count end whole out₀ at out to (pushed waiting None) next.end true
    opened q =
        let l = open_room q in
        record {
          o = g.o;
          rest = g.rest;
          all = g.all;
          put = g.put;
          holds = record { few = omega arith; full = simp length-set g.holds.full };
          walks = rw (stack_pushed waiting None (omega (arith, g.holds.full))) (there true (40 ∷ stack waiting) g.rest (read Open q).1);
        }

    module _ (v : ℕ) (q : next.factor ≡ Literal v) where
      pub literal_fits : to + length (push_text v) ≤ length out
      literal_fits = let w = read (Literal v) q in fits g (push_text v) w.0 w.1.0

      pub literal_goes : {new : List ℕ} {r : ℕ} → Overwrites out to (push_text v) new r → Going s c count end whole out₀ at new r waiting next.end false
      literal_goes p = let w = read (Literal v) q in goes g (push_text v) w.0 w.1.0 p g.holds (there false (stack waiting) w.0 w.1.1)

    module _ (b : ℕ) (q : next.factor ≡ Name b) where
      pub name_below : b < count
      name_below = (read (Name b) q).0

      pub name_stands : AllInText s c (b + 1)
      name_stands j l = x.stand j (omega (arith, name_below))

      pub name_fits : to + length (text_of (tree_of s c b)) ≤ length out
      name_fits = let w = (read (Name b) q).1 in fits g (text_of (tree_of s c b)) w.0 w.1.0

      pub name_goes : {new : List ℕ} {r : ℕ} → Overwrites out to (text_of (tree_of s c b)) new r → Going s c count end whole out₀ at new r waiting next.end false
      name_goes p = let w = (read (Name b) q).1 in goes g (text_of (tree_of s c b)) w.0 w.1.0 p g.holds (there false (stack waiting) w.0 w.1.1)

  -- an operator
  module _ (g : Going s c count end whole out₀ at out to waiting i false) where
    turn : Operated s c count (take end s) i (stack waiting) g.rest (symbol_at (take end s) i)
    turn = operator_step s c count (take end s) i (stack waiting) g.rest g.walks

    pub turn_ready : i < end → CanTurn (take end s) i out to waiting
    turn_ready l = record { before = omega (arith, length-take-le end s x.inside); holds = g.holds; room = fits g (operators_text (popped (down_to (symbol_at (take end s) i)) (stack waiting))) turn.o' turn.text; operator = turn.room; mark = turn.mark; last = turn.last }

    pub turn_room : to + length (operators_text (popped (down_to (symbol_at (take end s) i)) (stack waiting))) ≤ length out
    turn_room = fits g (operators_text (popped (down_to (symbol_at (take end s) i)) (stack waiting))) turn.o' turn.text

    pub turn_goes : {new : List ℕ} {waiting' : Waiting} {r : Turn} → Turns (take end s) i out to waiting new waiting' r → Going s c count end whole out₀ at new r.to waiting' r.at r.due
    turn_goes t = goes g (operators_text (popped (down_to (symbol_at (take end s) i)) (stack waiting))) turn.o' turn.text t.put t.holds (rw (t.next, t.stacked, t.due) turn.walks)

  -- the end
  module _ {due : Bool} (g : Going s c count end whole out₀ at out to waiting i due) (l : end ≤ i) where
    none_left : tokens (drop i (take end s)) ≡ []
    unfolding scan
    none_left = ap tokens (drop_of_length-le (take end s) {i = i} (omega (arith, length-take-le end s x.inside)))

    last : (d : Bool) → due ≡ d → g.rest ≡ operators_text (popped levels (stack waiting)) ++ []
    last true e = absurd (rw (none_left, e) at g.walks)
    last false e =
        let w : Walks (env_of s c count) false (stack waiting) [] g.rest = rw (none_left, e) at g.walks in
        w.text ∙ sym (append-nil (operators_text (popped levels (stack waiting))))

    pub end_fits : to + length (operators_text (popped levels (stack waiting))) ≤ length out
    end_fits = fits g (operators_text (popped levels (stack waiting))) [] (last due refl)

    pub end_put : {new : List ℕ} {r : ℕ} → Overwrites out to (operators_text (popped levels (stack waiting))) new r → Overwrites out₀ at whole new r
    end_put p =
        let e = last due refl in
        let q = overwrites_then g.put (omega (arith, x.room, part g (operators_text (popped levels (stack waiting))) [] e)) p in
        let a : g.o ++ operators_text (popped levels (stack waiting)) ≡ whole = ap (λ (y : List ℕ). g.o ++ y) (sym (e ∙ append-nil (operators_text (popped levels (stack waiting))))) ∙ g.all in
        rw (← a) q

-- a binding that has an expression means its tree among the bindings before it
module _ {s : List ℕ} {c : Sources} {b : ℕ} (few : b < 256) (a : AllInText s c (b + 1)) where
  pub parameter_text : get_or c.sizes b 0 ≡ 0 → text_of (tree_of s c b) ≡ push_text (get_or c.values b 0)
  parameter_text e =
      let t : tree_of s c b ≡ num (get_or c.values b 0) = simp (eq-eqb (get_or c.sizes b 0) 0 e) in
      ap text_of t ∙ text_num (get_or c.values b 0)

  module _ {start end : ℕ} (p : start ≡ get_or c.starts b 0) (q : end ≡ start + get_or c.sizes b 0) (h : 0 < get_or c.sizes b 0) where
    stands : get_or c.starts b 0 + get_or c.sizes b 0 ≤ length s
    stands = (a b (omega arith)).inside

    between : expression_of s c b ≡ drop start (take end s)
    between =
        let n : get_or c.sizes b 0 ≡ end - start = omega arith in
        ap (λ (k : ℕ). take k (drop (get_or c.starts b 0) s)) n ∙ ap (λ (k : ℕ). take (end - start) (drop k s)) (sym p) ∙ take-drop_slice s start end (omega arith) (omega (arith, stands))

    same_tree : tree_of s c b ≡ tree_between s c b start end
    same_tree =
        let t : tree_of s c b ≡ tree_or0 (meaning (env_of s c b) (expression_of s c b)) = simp (ne_eqb (get_or c.sizes b 0) 0 (λ z. omega arith)) in
        t ∙ ap (λ (y : List ℕ). tree_or0 (meaning (env_of s c b) y)) between

    pub binding_means : MeansTree s c b start end
    binding_means = record {
      few = omega arith;
      stand = λ i l. a i (omega arith);
      inside = omega (arith, stands);
      is = ap (meaning (env_of s c b)) (sym between) ∙ (a b (omega arith)).means h ∙ ap is same_tree;
    }

    pub binding_text : text_of (tree_of s c b) ≡ text_of (tree_between s c b start end)
    binding_text = ap text_of same_tree
