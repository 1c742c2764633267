-- `token::token_at` meets its contract: the bytes that go on from the first one are the first token.
use Rattle.std.proofs.Common.{◌+◌, drop, ap, ◌∙◌}
use Rattle.base.proofs.Lists.{prefix_len_is}
use Rattle.token.specs.Token.{space}
use Rattle.token.proofs.Tokens.{next_at, is_token, is_none}
use Rattle.token.proofs.token_at.Goals as goal

pub returns-then-text-start : goal.returns-then-text-start
returns-then-text-start c =
    let a = c.args in
    is_none a.text.now a.at (c.token_start-start.ensures ∙ ap (λ n. a.at + n) (prefix_len_is space (drop a.at a.text.now))) c.if-text-start.true

pub returns : goal.returns
returns c =
    let a = c.args in
    let e = c.token_start-start.ensures ∙ ap (λ n. a.at + n) (prefix_len_is space (drop a.at a.text.now)) in
    is_token a.text.now a.at e (next_at a.text.now a.at _ e c.if-text-start.false _ c.token_end-end.ensures)
