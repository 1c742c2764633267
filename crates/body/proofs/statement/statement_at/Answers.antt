-- `body::statement::statement_at` meets its contract: by its length, else the trimmed line is read.
-- Assumes nothing.
use mathlib.Core.Path.{sym}
use native.Mathlib.Omega.{arith}
use Rattle.body.proofs.Places.{trimmed_inside, short_skipped}
use Rattle.body.proofs.statement.statement_at.Goals as goal

pub returns-then-line-lt4 : goal.returns-then-line-lt4
returns-then-line-lt4 c = let a = c.args in sym (short_skipped a.contract.now a.line.start a.line.end c.requires.ordered c.requires.high c.if-line-lt4.true)

pub trimmed_at-requires : goal.trimmed_at-requires
trimmed_at-requires c =
    let a = c.args in
    let i = trimmed_inside a.contract.now a.line.start a.line.end c.requires.ordered c.requires.high in
    let h = c.requires.high in
    rw c.trimmed_part.ensures (record { low = omega arith; ordered = i.ordered; high = omega (arith, i.high) })
