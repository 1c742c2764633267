-- The loop that writes waiting operators.
use Prim.Native.Nat.{ℕ, ◌+◌, ◌-◌, ◌<◌, ◌≤◌}
use mathlib.Core.Path.{◌≡◌, refl, sym, ap, ◌∙◌}
use mathlib.Core.List.{List, ◌∷◌, ◌++◌, append-nil, append_assoc}
use native.Mathlib.Omega.{arith}
use mathlib.Core.Bool.{Bool, true, false}
use lib.Dec.{leb}
use Rattle.std.proofs.lemmas.Bool.{leb-true, leb-false}
use lib.ListN.{length, get_or, length-append}
use Rattle.std.specs.Bool.{then_some}
use Rattle.grammar.specs.Grammar.{levels}
use Rattle.expression.specs.Code.Parts.{level_number}
use Rattle.expression.specs.Code.Parts as parts
use Rattle.std.specs.Prelude.{Option, Some, None, map}
use Rattle.std.proofs.lemmas.List.{get_or-map}
use Rattle.word.specs.declared.Operator.{Operator}
use Rattle.writer.specs.Code.Overwrites.{Overwrites}
use Rattle.emission.specs.Code.Lines.{operator_text, operators_text}
use Rattle.writer.proofs.Pieces.{overwrites_then, overwrites_length}
use Rattle.grammar.specs.Code.Operator.{level_of}
use Rattle.emission.specs.Code.Waiting.{most, sign_of, popped, left, stack, Holds, Newest, Pops}
use Rattle.emission.specs.declared.waiting.Waiting.{Waiting}
use Rattle.emission.proofs.Stack.{left_one, left_all, popped_empty, popped_shut, popped_more}
use Rattle.emission.proofs.Signs.{level_is}
use Rattle.base.specs.Code.Stack.{stack_of}
use Rattle.base.proofs.Stack.{stack_pop}

-- o is written so far, and k of n operators wait
pub record Popping (A : List ℕ) (level n : ℕ) (out₀ : List ℕ) (at : ℕ) (out : List ℕ) (to k : ℕ) : Type 0 where
  pub o : List ℕ
  pub put : Overwrites out₀ at o out to
  pub all : o ++ operators_text (popped level (stack_of A k)) ≡ operators_text (popped level (stack_of A n))
  pub room : at + length (operators_text (popped level (stack_of A n))) ≤ length out₀
  pub same : left level (stack_of A k) ≡ left level (stack_of A n)
  pub fewer : k ≤ n
  pub few : n ≤ most

module _ {A : List ℕ} {level n : ℕ} {out₀ : List ℕ} {at : ℕ} {out : List ℕ} {to k : ℕ} (p : Popping A level n out₀ at out to k) where
  written : length p.o + length (operators_text (popped level (stack_of A k))) ≡ length (operators_text (popped level (stack_of A n)))
  written = sym (length-append p.o (operators_text (popped level (stack_of A k)))) ∙ ap length p.all

  pub popping_length : length out ≡ length out₀
  popping_length = overwrites_length p.put (omega (arith, written, p.room))

  module _ (h : 0 < k) where
    top : stack_of A k ≡ get_or A (k - 1) 0 ∷ stack_of A (k - 1)
    top = stack_pop A k h

    module _ (l : level_of (get_or A (k - 1) 0) ≤ level) where
      more : operators_text (popped level (stack_of A k)) ≡ operator_text (get_or A (k - 1) 0) ++ operators_text (popped level (stack_of A (k - 1)))
      more = ap operators_text (popped_more A level k h l)

      long : length p.o + (length (operator_text (get_or A (k - 1) 0)) + length (operators_text (popped level (stack_of A (k - 1))))) ≡ length (operators_text (popped level (stack_of A n)))
      long = omega (arith, written, ap length more, length-append (operator_text (get_or A (k - 1) 0)) (operators_text (popped level (stack_of A (k - 1)))))

      pub popping_fits : to + length (operator_text (get_or A (k - 1) 0)) ≤ length out
      popping_fits = omega (arith, popping_length, p.put.next, p.room, long)

      pub popping_more : {new : List ℕ} {r : ℕ} → Overwrites out to (operator_text (get_or A (k - 1) 0)) new r → Popping A level n out₀ at new r (k - 1)
      popping_more {new} {r} q = record {
        o = p.o ++ operator_text (get_or A (k - 1) 0);
        put = overwrites_then p.put (omega (arith, p.room, long)) q;
        all = append_assoc p.o (operator_text (get_or A (k - 1) 0)) (operators_text (popped level (stack_of A (k - 1)))) ∙ ap (λ (x : List ℕ). p.o ++ x) (sym more) ∙ p.all;
        room = p.room;
        same = sym (left_one level (get_or A (k - 1) 0) (stack_of A (k - 1)) l) ∙ ap (left level) (sym top) ∙ p.same;
        fewer = omega (arith, p.fewer);
        few = p.few;
      }

module _ (operators : List (Option Operator)) {level n : ℕ} {out₀ : List ℕ} {at : ℕ} {out : List ℕ} {to k : ℕ} (p : Popping (map sign_of operators) level n out₀ at out to k) where
  -- the operators that waited at first were w
  pub popping_ends : Newest level (record { operators = operators; count = k }) None → (w : Waiting) → operators ≡ w.operators → n ≡ w.count → length operators ≡ most → Pops out₀ at w level out (record { operators = operators; count = k }) to
  popping_ends e w x y f =
      let A = map sign_of operators in
      let a : p.o ≡ operators_text (popped level (stack_of A n)) = sym (append-nil p.o) ∙ ap (λ (x : List ℕ). p.o ++ operators_text x) (sym e) ∙ p.all in
      let z : stack_of A n ≡ stack w = rw (x, y) refl in
      record { put = rw (← z, ← a) p.put; rest = rw (← z) (sym (left_all level (stack_of A k) e) ∙ p.same); holds = record { few = omega (arith, p.fewer, p.few); full = f } }

  -- the newest is an operator that goes
  module _ {op : Operator} (t : Newest level (record { operators = operators; count = k }) (Some op)) (f : length operators ≡ most) where
    top_is : get_or (map sign_of operators) (k - 1) 0 ≡ sign_of (Some op)
    top_is = get_or-map sign_of operators (k - 1) None 0 (omega (arith, p.fewer, p.few, t.0)) ∙ ap sign_of t.1.0

    top_low : level_of (get_or (map sign_of operators) (k - 1) 0) ≤ level
    top_low = omega (arith, ap level_of top_is, level_is op, t.1.1)

    pub top_fits : to + length (operator_text (sign_of (Some op))) ≤ length out
    top_fits = rw (← top_is) (popping_fits p t.0 top_low)

    pub top_goes : {new : List ℕ} {r : ℕ} → Overwrites out to (operator_text (sign_of (Some op))) new r → Popping (map sign_of operators) level n out₀ at new r (k - 1)
    top_goes q = popping_more p t.0 top_low (rw (← top_is) at q)

-- what is newest
module _ (w : Waiting) (level : ℕ) (h : Holds w) where
  pub newest_empty : w.count ≡ 0 → Newest level w None
  newest_empty e = popped_empty (map sign_of w.operators) level w.count (omega arith)

  module _ (s : w.count ≡ 0 → ⊥) where
    sign_is : {operator : Option Operator} → get_or w.operators (w.count - 1) None ≡ operator → get_or (map sign_of w.operators) (w.count - 1) 0 ≡ sign_of operator
    sign_is e = get_or-map sign_of w.operators (w.count - 1) None 0 (omega (arith, h.few, h.full)) ∙ ap sign_of e

    pub newest_mark : level ≤ levels → get_or w.operators (w.count - 1) None ≡ None → Newest level w None
    newest_mark l e = popped_shut (map sign_of w.operators) level w.count (omega arith) (omega (arith, ap level_of (sign_is e)))

    pub newest_operator : (op : Operator) → get_or w.operators (w.count - 1) None ≡ Some op → (b : Bool) → b ≡ leb (level_number (parts.level_of op)) level → Newest level w (then_some b op)
    newest_operator op e true b = (omega arith, (e, leb-true _ _ (sym b)))
    newest_operator op e false b = popped_shut (map sign_of w.operators) level w.count (omega arith) (omega (arith, leb-false _ _ (sym b), ap level_of (sign_is e), level_is op))
