-- What an operator, a closing parenthesis or the end does to the waiting operators, as the code does it.
use Prim.Native.Nat.{ℕ, ◌-◌, ◌<◌, ◌≤◌}
use mathlib.Core.Path.{◌≡◌, refl, sym, ap, subst, ◌∙◌}
use mathlib.Core.List.{List, [], ◌∷◌}
use mathlib.Core.Bool.{true, false}
use native.Mathlib.Omega.{arith}
use borrow.Author.Tests.{le-leb, lt-leb, eq-eqb, ne_eqb}
use lib.Dec.{leb}
use lib.ListN.{length, drop, length-set, drop_of_length-le}
use Rattle.std.specs.Prelude.{Option, Some, None, map}
use Rattle.base.proofs.Stack.{length_stack, stack_pop}
use Rattle.word.specs.declared.Operator.{Operator}
use Rattle.token.specs.Token.{tokens, scan}
use Rattle.token.specs.Code.Places.{start_at, end_at}
use Rattle.grammar.specs.Grammar.{levels}
use Rattle.grammar.specs.Code.Operator.{level_of}
use Rattle.emission.specs.declared.waiting.Waiting.{Waiting}
use Rattle.emission.specs.Code.Waiting.{most, sign_of, left, stack, pushed, Pops}
use Rattle.emission.specs.Code.Turn.{symbol_at, down_to, CanTurn, Turns}
use Rattle.expression.specs.declared.parts.Sign.{Sign}
use Rattle.expression.specs.declared.parts.SignAt.{SignAt}
use Rattle.expression.specs.declared.parts.Level.{Level}
use Rattle.expression.specs.Code.Parts.{level_number}
use Rattle.expression.specs.Code.Parts as parts
use Rattle.emission.proofs.Signs.{byte_of, first_is, first_none, level_is, level_low}
use Rattle.emission.proofs.Stack.{stack_pushed}
use Rattle.emission.proofs.WalkStep.{token_past, none_behind}

module _ {s : List ℕ} {at : ℕ} {out : List ℕ} {to : ℕ} {w : Waiting} (r : CanTurn s at out to w) {l : ℕ} (d : l ≡ down_to (symbol_at s at)) where
  module _ {after : List ℕ} {v : Waiting} {behind : ℕ} (p : Pops out to w l after v behind) where
    q : Pops out to w (down_to (symbol_at s at)) after v behind
    q = subst (λ (k : ℕ). Pops out to w k after v behind) d p

    remaining : v.count ≡ length (left (down_to (symbol_at s at)) (stack w))
    remaining = sym (length_stack (map sign_of v.operators) v.count) ∙ ap length q.rest

    pub operator_room : level_of (symbol_at s at) ≤ levels → v.count < most
    operator_room h = omega (arith, r.operator h, remaining)

    pub close_mark : symbol_at s at ≡ 41 → 0 < v.count
    close_mark c = omega (arith, r.mark c, remaining)

    on : {next : ℕ} → next ≡ end_at s at → at < next
    on n = omega (arith, token_past s at r.before)

    pub operator_turns : (op : Operator) {next : ℕ} → symbol_at s at ≡ sign_of (Some op) → level_of (symbol_at s at) ≤ levels → next ≡ end_at s at → Turns s at out to w after (pushed v (Some op)) (record { at = next; to = behind; due = true })
    operator_turns op e h n =
        let t : leb (level_of (symbol_at s at)) levels ≡ true = le-leb (level_of (symbol_at s at)) levels h in
        record {
          put = q.put;
          past = on n;
          next = ap (λ (k : ℕ). tokens (drop k s)) n;
          stacked = stack_pushed v (Some op) (omega (arith, operator_room h, q.holds.full)) ∙ ap (λ (st : List ℕ). sign_of (Some op) ∷ st) q.rest ∙ ap (λ (a : ℕ). a ∷ left (down_to (symbol_at s at)) (stack w)) (sym e) ∙ sym (simp t);
          holds = record { few = omega (arith, operator_room h); full = simp length-set q.holds.full };
          due = sym t;
        }

    -- a closing parenthesis
    pub close_turns : {next : ℕ} → symbol_at s at ≡ 41 → next ≡ end_at s at → Turns s at out to w after (record { operators = v.operators; count = v.count - 1 }) (record { at = next; to = behind; due = false })
    close_turns c n =
        let t : leb (level_of (symbol_at s at)) levels ≡ false = rw c in
        record {
          put = q.put;
          past = on n;
          next = ap (λ (k : ℕ). tokens (drop k s)) n;
          stacked = ap (drop 1) (sym (stack_pop (map sign_of v.operators) v.count (close_mark c)) ∙ q.rest) ∙ sym (simp (t, eq-eqb (symbol_at s at) 41 c));
          holds = record { few = omega (arith, q.holds.few); full = q.holds.full };
          due = sym t;
        }

    -- the end
    pub end_turns : (level_of (symbol_at s at) ≤ levels → ⊥) → (symbol_at s at ≡ 41 → ⊥) → Turns s at out to w after v (record { at = length s; to = behind; due = false })
    unfolding scan
    end_turns h c =
        let t : leb (level_of (symbol_at s at)) levels ≡ false = lt-leb (level_of (symbol_at s at)) levels (omega (arith, h)) in
        let e : tokens (drop (length s) s) ≡ [] = ap tokens (drop_of_length-le s {i = length s} (omega arith)) in
        record {
          put = q.put;
          past = r.before;
          next = e ∙ sym (none_behind s at (r.last h c));
          stacked = q.rest ∙ sym (simp (t, ne_eqb (symbol_at s at) 41 c));
          holds = q.holds;
          due = sym t;
        }

-- the sign at a place, as the code reads it
module _ (s : List ℕ) (at : ℕ) {sign : Sign} {next : ℕ} (e : parts.sign_at s at ≡ Some (record { sign = sign; end = next })) where
  pub sign_same : symbol_at s at ≡ byte_of sign
  sign_same = (first_is (start_at s at) (tokens (drop at s)) e).0

  pub sign_ends : next ≡ end_at s at
  sign_ends = (first_is (start_at s at) (tokens (drop at s)) e).1

-- an operator
module _ (s : List ℕ) (at : ℕ) (op : Operator) {next : ℕ} (e : parts.sign_at s at ≡ Some (record { sign = Sign.Operator op; end = next })) where
  pub operator_low : level_of (symbol_at s at) ≤ levels
  operator_low = omega (arith, ap level_of (sign_same s at e), level_is op, level_low op)

  pub operator_down : {l : Level} → l ≡ parts.level_of op → level_number l ≡ down_to (symbol_at s at)
  operator_down f = omega (arith, ap level_number f, ap level_of (sign_same s at e), level_is op, level_low op)

-- a parenthesis or the end
pub loose_down : (b : ℕ) → (level_of b ≤ levels → ⊥) → levels ≡ down_to b
loose_down b h = omega (arith, h)

pub close_loose : {b : ℕ} → b ≡ 41 → level_of b ≤ levels → ⊥
close_loose e l = omega (arith, ap level_of e)

-- the end is where the code reads no sign, or an open parenthesis
pub end_loose : (s : List ℕ) (at : ℕ) (r : Option SignAt) → parts.sign_at s at ≡ r → ((x : SignAt) → r ≡ Some x → x.sign ≡ Sign.Open) → (level_of (symbol_at s at) ≤ levels → ⊥) × (symbol_at s at ≡ 41 → ⊥)
end_loose s at None e h =
    let n = first_none (start_at s at) (tokens (drop at s)) e in
    (λ l. omega (arith, n.0), n.1)
end_loose s at (Some x) e h =
    let n = (first_is (start_at s at) (tokens (drop at s)) e).0 ∙ ap byte_of (h x refl) in
    (λ l. omega (arith, ap level_of n), λ q. omega arith)
