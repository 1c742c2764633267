-- `decimal::digits_end` meets its contract: what is left from the offset on starts with so many digits.
use Rattle.std.proofs.Common.{ℕ, List, ◌+◌, ◌-◌, length, take, drop, ap, ◌∙◌}
use Rattle.base.specs.Lists.{take_while}
use Rattle.base.proofs.Lists.{prefix_len_is}
use Rattle.base.proofs.Parts.{take-length-drop}
use Rattle.decimal.specs.Decimal.{digit}
use Rattle.decimal.proofs.digits_end.Goals as goal

pub returns : goal.returns
returns c =
    let s = c.args.s.now in
    ap (λ (n : ℕ). c.args.at + n)
    (c.digits_len.ensures.count ∙ prefix_len_is digit (take (length s - c.args.at) (drop c.args.at s)) ∙ ap (λ (t : List ℕ). length (take_while digit t)) (take-length-drop s c.args.at))
