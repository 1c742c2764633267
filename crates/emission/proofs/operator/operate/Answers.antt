-- `emission::operator::operate` meets its contract: an operator, a closing parenthesis or the end.
use native.Mathlib.Omega.{arith}
use mathlib.Core.Path.{◌≡◌, ap, sym, ◌∙◌}
use Rattle.std.specs.Prelude.{Some}
use Rattle.std.proofs.lemmas.Option.{none-some, same_Some}
use Rattle.expression.specs.declared.parts.Sign.TheVariants as Sign
use Rattle.expression.specs.declared.parts.SignAt.{SignAt}
use Rattle.emission.specs.Code.Turn.{symbol_at}
use Rattle.emission.proofs.OperatorStep.{operator_room, operator_turns, close_mark, close_turns, end_turns, sign_same, sign_ends, operator_low, operator_down, loose_down, close_loose, end_loose}
use Rattle.emission.proofs.operator.operate.Goals.{in_default-via-in-Some+in_default, in_default-via-in_default}
use Rattle.emission.proofs.operator.operate.Goals as goal

pub push-requires : goal.push-requires
push-requires c =
    let a = c.args in
    let i = c.in-Some-Operator in
    let e : c.sign_at.result ≡ Some (record { sign = Sign.Operator i.operator; end = i.field-0.end }) = grind arith in
    let f = sym c.sign_at.ensures ∙ e in
    operator_room c.requires (operator_down a.text.now a.at i.operator f c.level_of.ensures) c.write-behind.ensures (operator_low a.text.now a.at i.operator f)

pub returns-in-Some-Operator : goal.returns-in-Some-Operator
returns-in-Some-Operator c =
    let a = c.args in
    let i = c.in-Some-Operator in
    let e : c.sign_at.result ≡ Some (record { sign = Sign.Operator i.operator; end = i.field-0.end }) = grind arith in
    let f = sym c.sign_at.ensures ∙ e in
    rw c.push.ensures (operator_turns c.requires (operator_down a.text.now a.at i.operator f c.level_of.ensures) c.write-behind.ensures i.operator (sign_same a.text.now a.at f) (operator_low a.text.now a.at i.operator f) (sign_ends a.text.now a.at f))

pub overflow_sub-waiting : goal.overflow_sub-waiting
overflow_sub-waiting c =
    let a = c.args in
    let i = c.in-Some-Close in
    let e : c.sign_at.result ≡ Some (record { sign = Sign.Close; end = i.field-0.end }) = grind arith in
    let q = sign_same a.text.now a.at (sym c.sign_at.ensures ∙ e) in
    close_mark c.requires (loose_down (symbol_at a.text.now a.at) (close_loose q)) c.write-behind-in-Some-Close.ensures q

pub returns-in-Some-Close : goal.returns-in-Some-Close
returns-in-Some-Close c =
    let a = c.args in
    let i = c.in-Some-Close in
    let e : c.sign_at.result ≡ Some (record { sign = Sign.Close; end = i.field-0.end }) = grind arith in
    let f = sym c.sign_at.ensures ∙ e in
    let q = sign_same a.text.now a.at f in
    close_turns c.requires (loose_down (symbol_at a.text.now a.at) (close_loose q)) c.write-behind-in-Some-Close.ensures q (sign_ends a.text.now a.at f)

pub returns-in_default : goal.returns-in_default
returns-in_default c =
    let a = c.args in
    let opens : (x : SignAt) → c.sign_at.result ≡ Some x → x.sign ≡ Sign.Open =
    λ x e.
    elim c.in_default.branch [
      | in_default-via-in-Some+in_default w ↦ (let o : w.in_default.field-0.sign ≡ Sign.Open = grind arith in ap (λ (y : SignAt). y.sign) (same_Some _ _ (sym e ∙ w.in_default.is)) ∙ o)
      | in_default-via-in_default w ↦ absurd (none-some _ (sym w.in_default.is ∙ e))
    ] in
    let n = end_loose a.text.now a.at c.sign_at.result (sym c.sign_at.ensures) opens in
    end_turns c.requires (loose_down (symbol_at a.text.now a.at) n.0) c.write.ensures n.0 n.1
