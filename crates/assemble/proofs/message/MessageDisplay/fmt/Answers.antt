-- A refusal is displayed as its message, by what it carries.
-- Assumes nothing.
use Rattle.std.proofs.Common.{arith, refl, sym, ap, ◌∙◌, ℕ, ◌++◌, inl, inr}
use Rattle.std.proofs.Output.{has_written_of_eq}
use Rattle.std.specs.Fmt.{decimal as std_decimal}
use Rattle.base.specs.Ascii.{ascii}
use Rattle.assemble.specs.Message.{key_text}
use Rattle.assemble.proofs.Messages.{carried, key_said, line_said, nothing_carried, message_said}
use Rattle.assemble.proofs.message.MessageDisplay.fmt.Goals as goal
use Rattle.assemble.proofs.message.MessageDisplay.fmt.Goals.{in-Expression, in-Expression-2}

pub returns-then-place-eq0-clause-writes : goal.returns-then-place-eq0-clause-writes
returns-then-place-eq0-clause-writes g c = λ p q.
    let t = ap (λ (n : ℕ). ascii ", key " ++ key_text n) (sym c.if-place-eq0.true) ∙ sym (ap carried c.in-Key.is) in
    has_written_of_eq _ _ _ _ _ (message_said c.args.self.now.0 c.numbered-number.result c.numbered-number.ensures (omega arith) c.words-words.ensures t) (c.writeln.ensures.writes p q)

pub returns-else-place-eq0-clause-writes : goal.returns-else-place-eq0-clause-writes
returns-else-place-eq0-clause-writes g c = λ p q.
    let t = key_said c.in-Key.place (omega arith) c.if-place-eq0.false ∙ sym (ap carried c.in-Key.is) in
    has_written_of_eq _ _ _ _ _ (message_said c.args.self.now.0 c.numbered-number.result c.numbered-number.ensures (omega arith) c.words-words.ensures t) (c.writeln-in-Key.ensures.writes p q)

pub returns-in-NoEquals-clause-writes : goal.returns-in-NoEquals-clause-writes
returns-in-NoEquals-clause-writes g c = λ p q.
    let t = line_said refl (omega arith) (inl c.in-NoEquals.is) in
    has_written_of_eq _ _ _ _ _ (message_said c.args.self.now.0 c.numbered-number.result c.numbered-number.ensures (omega arith) c.words-words.ensures t) (c.writeln-in-NoEquals.ensures.writes p q)

pub returns-in-Expression-clause-writes : goal.returns-in-Expression-clause-writes
returns-in-Expression-clause-writes g c = λ p q.
    let t = ascii ", line " ++ std_decimal c.in-Expression-1.line in
    has_written_of_eq _ _ _ _ _ (message_said c.args.self.now.0 c.numbered-number.result c.numbered-number.ensures (omega arith) {t = t} c.words-words.ensures
    (elim c.in-Expression-1.branch [ in-Expression w ↦ line_said w.line-is (omega arith) (inr w.in-Expression.is) | in-Expression-2 w ↦ line_said w.line-is (omega arith) (inr w.in-Expression.is) ]))
    (c.writeln-in-Expression.ensures.writes p q)

pub returns-in_default : goal.returns-in_default
returns-in_default g c =
    let d = c.in_default in
    let t = nothing_carried c.args.self.now.0 d.not-Key d.not-NoEquals d.not-Expression d.not-TooLong in
    record {
      writes = λ p q. has_written_of_eq _ _ _ _ _ (message_said c.args.self.now.0 c.numbered-number.result c.numbered-number.ensures (omega arith) c.words-words.ensures t) (c.writeln-in_default.ensures.writes p q);
      styled = tt;
    }
