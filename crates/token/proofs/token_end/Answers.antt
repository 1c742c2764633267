-- `token::token_end` meets its contract: a digit or a letter goes on as far as `take_while` does.
use Rattle.std.proofs.Common.{◌+◌, length, get_or, drop, sym, ap, ◌∙◌}
use Rattle.base.proofs.Parts.{take-length-drop}
use Rattle.base.proofs.Lists.{prefix_len_is}
use Rattle.std.specs.List.{prefix_len}
use Rattle.token.specs.Code.Bytes.{goes_on}
use Rattle.token.proofs.Tokens.{rest_run}
use Rattle.token.proofs.token_end.Goals as goal

pub returns-then-is_name_part : goal.returns-then-is_name_part
returns-then-is_name_part c =
    let s = c.args.text.now in
    let i = c.args.start in
    let a = get_or s i 0 in
    let t = drop (i + 1) s in
    let n = c.more.ensures.count ∙ ap (prefix_len (goes_on a)) (take-length-drop s (i + 1)) ∙ prefix_len_is (goes_on a) t in
    ap (λ m. i + 1 + m) (n ∙ ap length (sym (rest_run a t (sym c.is_name_part.ensures ∙ c.if-is_name_part.true))))
