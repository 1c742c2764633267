-- `body::statement::let_at` meets its contract: by what the search found.
-- Assumes nothing.
use mathlib.Core.Path.{sym, ◌∙◌}
use native.Mathlib.Omega.{arith}
use Rattle.body.proofs.Places.{equals_inside}
use Rattle.body.proofs.statement.let_at.Goals as goal

pub overflow_add-equals : goal.overflow_add-equals
overflow_add-equals c = let a = c.args in let e = equals_inside a.contract.now a.text.start a.text.end c.requires.ordered c.requires.high _ (sym c.find_byte.ensures ∙ c.in-Some.is) in omega arith

pub overflow_add-expr : goal.overflow_add-expr
overflow_add-expr c = let a = c.args in let e = equals_inside a.contract.now a.text.start a.text.end c.requires.ordered c.requires.high _ (sym c.find_byte.ensures ∙ c.in-Some.is) in omega arith

pub trimmed_part-requires : goal.trimmed_part-requires
trimmed_part-requires c = let a = c.args in let e = equals_inside a.contract.now a.text.start a.text.end c.requires.ordered c.requires.high _ (sym c.find_byte.ensures ∙ c.in-Some.is) in record { low = omega arith; ordered = omega arith; high = omega arith }

pub trimmed_part-requires-2 : goal.trimmed_part-requires-2
trimmed_part-requires-2 c = let a = c.args in let e = equals_inside a.contract.now a.text.start a.text.end c.requires.ordered c.requires.high _ (sym c.find_byte.ensures ∙ c.in-Some.is) in record { low = omega arith; ordered = omega arith; high = omega arith }
