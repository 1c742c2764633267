-- `lines::line_at` meets its contract: by whether a line feed ends the line.
-- Assumes nothing.
use Rattle.std.specs.Prelude.{Some}
use Prim.Native.Nat.{◌+◌}
use mathlib.Core.Path.{◌≡◌, sym, ap, ap₂, ◌∙◌}
use native.Mathlib.Omega.{arith}
use Rattle.lines.specs.Code.Visits.{feed_from}
use Rattle.lines.proofs.Cursor.{feed_bounds, line_here, unended, ended}
use Rattle.lines.proofs.line_at.Goals as goal

pub returns-then-feed-s : goal.returns-then-feed-s
returns-then-feed-s c =
    let a = c in
    let s = a.args.s.now in
    let at = a.args.at in
    let h = c.if-s-at.false in
    let f = c.line_feed-feed.ensures in
    let u = unended s at h (sym f ∙ c.if-feed-s.true) in
    ap₂ (λ e n. Some (record { text = record { start = at; end = e }; next = n })) (c.if-feed-s.true ∙ u.0) (c.if-feed-s.true ∙ u.1) ∙ sym (line_here s at h)

pub before_return-requires : goal.before_return-requires
before_return-requires c =
    let a = c in
    let b = feed_bounds a.args.s.now a.args.at (omega arith) in
    let f = c.line_feed-feed.ensures in (omega arith, (omega arith, f))

pub overflow_add-result : goal.overflow_add-result
overflow_add-result c =
    let a = c in
    let b = feed_bounds a.args.s.now a.args.at (omega arith) in
    let f = c.line_feed-feed.ensures in omega arith

pub returns : goal.returns
returns c =
    let a = c in
    let s = a.args.s.now in
    let at = a.args.at in
    let h = c.if-s-at.false in
    let f : c.line_feed-feed.result ≡ feed_from s at = c.line_feed-feed.ensures in
    let b = feed_bounds s at (omega arith) in
    let n = ended s at h (omega arith) in
    ap₂ (λ e n. Some (record { text = record { start = at; end = e }; next = n })) c.before_return.ensures (ap (λ k. k + 1) f ∙ n) ∙ sym (line_here s at h)
