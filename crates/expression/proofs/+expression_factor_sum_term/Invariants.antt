-- Every call of the cycle is at a later byte, or at the same byte and of a lower rank.
use Rattle.std.proofs.Common.{◌+◌, ◌-◌, ◌*◌, length}
use Rattle.bindings.specs.Code.Known.{known_columns}
use Rattle.expression.specs.declared.parts.Level.TheVariants.{Product, Sum, Comparison}
use Rattle.expression.proofs.Reading.{Chain}
use Rattle.expression.proofs.+expression_factor_sum_term.Given as goal

abbrev pub decreases-expression : goal.decreases-expression
decreases-expression l = 8 * (length l.known.text.now - l.at) + 4

abbrev pub decreases-factor : goal.decreases-factor
decreases-factor l = 8 * (length l.known.text.now - l.at) + 1

abbrev pub decreases-sum : goal.decreases-sum
decreases-sum l = 8 * (length l.known.text.now - l.at) + 3

abbrev pub decreases-term : goal.decreases-term
decreases-term l = 8 * (length l.known.text.now - l.at) + 2

abbrev pub invariant-expression-loop-read : goal.invariant-expression-loop-read
invariant-expression-loop-read l = Chain Comparison l.known.text.now l.at (known_columns l.known) l.room l.left l.next

abbrev pub decreases-expression-loop-read : goal.decreases-expression-loop-read
decreases-expression-loop-read l = length l.known.text.now - l.next

abbrev pub invariant-sum-loop-read : goal.invariant-sum-loop-read
invariant-sum-loop-read l = Chain Sum l.known.text.now l.at (known_columns l.known) l.room l.left l.next

abbrev pub decreases-sum-loop-read : goal.decreases-sum-loop-read
decreases-sum-loop-read l = length l.known.text.now - l.next

abbrev pub invariant-term-loop-read : goal.invariant-term-loop-read
invariant-term-loop-read l = Chain Product l.known.text.now l.at (known_columns l.known) l.room l.left l.next

abbrev pub decreases-term-loop-read : goal.decreases-term-loop-read
decreases-term-loop-read l = length l.known.text.now - l.next
