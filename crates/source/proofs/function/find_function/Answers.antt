-- `source::function::find_function` meets its contract: what each search finds lies within the text.
use Rattle.std.proofs.Common.{◌≡◌, sym, ◌∙◌, arith}
use Rattle.std.specs.Prelude.{Some}
use Rattle.base.specs.Ascii.{ascii}
use Rattle.source.proofs.Found.{in_text}
use Rattle.source.proofs.function.find_function.Goals as goal

pub overflow_add-name : goal.overflow_add-name
overflow_add-name c =
    let e : c.find.result ≡ Some c.in_ok-name.name = grind arith in
    let i = in_text (ascii "fn ") c.args.contract.now _ _ (sym c.find.ensures ∙ e) in
    omega arith

pub overflow_add-left : goal.overflow_add-left
overflow_add-left c =
    let e : c.find_byte.result ≡ Some c.in_ok-left.left = grind arith in
    let i = in_text (ascii "(") c.args.contract.now _ _ (sym c.find_byte.ensures ∙ e) in
    omega arith

pub overflow_add-right : goal.overflow_add-right
overflow_add-right c =
    let e : c.find_byte-2.result ≡ Some c.in_ok-right.right = grind arith in
    let i = in_text (ascii ")") c.args.contract.now _ _ (sym c.find_byte-2.ensures ∙ e) in
    omega arith

pub overflow_add-brace : goal.overflow_add-brace
overflow_add-brace c =
    let e : c.find_byte-3.result ≡ Some c.in_ok-brace.brace = grind arith in
    let i = in_text (ascii "{") c.args.contract.now _ _ (sym c.find_byte-3.ensures ∙ e) in
    omega arith
