-- `kmp::find` meets its contract: by the place and the length of p; the table that is filled is the one that the walk requires.
use mathlib.Core.Path.{sym, ◌∙◌}
use borrow.Author.Tests.{eqb-true}
use native.Mathlib.Omega.{arith}
use Rattle.search.proofs.Prefix.{empty}
use Rattle.search.proofs.Laws.{hit}
use Rattle.kmp.proofs.find.Goals as goal

pub returns-then-is_empty : goal.returns-then-is_empty
returns-then-is_empty c =
    let a = c.args in
    sym (hit a.p.now a.s.now a.at (omega arith) (empty a.p.now _ (eqb-true _ _ (sym c.is_empty.ensures ∙ c.if-is_empty.true))))
