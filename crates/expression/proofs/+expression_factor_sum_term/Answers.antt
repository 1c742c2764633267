-- expression, sum, term and factor meet their contracts: every call is at a later byte, or at the same byte and of a lower rank.
use Rattle.std.proofs.lemmas.Result.{err_from_is_err_and}
use Rattle.std.proofs.Common.{sym, subst, ◌∙◌}
use native.Mathlib.Omega.{arith}
use Rattle.grammar.specs.Parse.{factor}
use Rattle.bindings.specs.Code.Known.{known_columns}
use Rattle.bindings.proofs.Lookup.{known_below}
use Rattle.expression.specs.declared.parts.Level.TheVariants.{Product, Sum, Comparison}
use Rattle.expression.specs.Code.Cycle.{ParsesAs}
use Rattle.expression.proofs.Reading.{starting, finishes, chain_refused, chain_joined, chain_next}
use Rattle.expression.proofs.FactorMeets.{followed_by, FactorMeets, factor_meets, factor_past, open_deep, open_refused, open_closed, literal_done, name_found, name_done}
use Rattle.expression.proofs.+expression_factor_sum_term.Goals.{factor-in-Open+else-room-eq0+in_ok-inner-in-Open+in_ok-figures-in-Open, factor-in-Literal, factor-in-Name}
use Rattle.expression.proofs.+expression_factor_sum_term.Goals as goal

pub expression-loop-read-init : goal.expression-loop-read-init
expression-loop-read-init t c = starting

pub expression-returns-in_err-sum : goal.expression-returns-in_err-sum
expression-returns-in_err-sum t c = let p = err_from_is_err_and c.from_residual.result c.from_residual.ensures.1 in rw (p.1, p.2) (chain_refused c.loop-read.invariant c.in_err-sum.ensures)

pub expression-returns-in_default : goal.expression-returns-in_default
expression-returns-in_default t c = finishes Comparison (chain_joined c.loop-read.invariant c.in_ok-sum.ensures c.joined-read.ensures) (sym c.operator.ensures ∙ c.in_default.is)

pub expression-loop-read-preserved : goal.expression-loop-read-preserved
expression-loop-read-preserved t c = chain_next (chain_joined c.loop-read.invariant c.in_ok-sum.ensures c.joined-read.ensures) (sym c.operator.ensures ∙ c.in-Some.is)

pub sum-loop-read-init : goal.sum-loop-read-init
sum-loop-read-init t c = starting

pub sum-returns-in_err-term : goal.sum-returns-in_err-term
sum-returns-in_err-term t c = let p = err_from_is_err_and c.from_residual.result c.from_residual.ensures.1 in rw (p.1, p.2) (chain_refused c.loop-read.invariant c.in_err-term.ensures)

pub sum-returns-in_default : goal.sum-returns-in_default
sum-returns-in_default t c = finishes Sum (chain_joined c.loop-read.invariant c.in_ok-term.ensures c.joined-read.ensures) (sym c.operator.ensures ∙ c.in_default.is)

pub sum-loop-read-preserved : goal.sum-loop-read-preserved
sum-loop-read-preserved t c = chain_next (chain_joined c.loop-read.invariant c.in_ok-term.ensures c.joined-read.ensures) (sym c.operator.ensures ∙ c.in-Some.is)

pub term-loop-read-init : goal.term-loop-read-init
term-loop-read-init t c = starting

pub term-returns-in_err-factor : goal.term-returns-in_err-factor
term-returns-in_err-factor t c = let p = err_from_is_err_and c.from_residual.result c.from_residual.ensures.1 in rw (p.1, p.2) (chain_refused c.loop-read.invariant c.in_err-factor.ensures)

pub term-returns-in_default : goal.term-returns-in_default
term-returns-in_default t c = finishes Product (chain_joined c.loop-read.invariant c.in_ok-factor.ensures c.joined-read.ensures) (sym c.operator.ensures ∙ c.in_default.is)

pub term-loop-read-preserved : goal.term-loop-read-preserved
term-loop-read-preserved t c = chain_next (chain_joined c.loop-read.invariant c.in_ok-factor.ensures c.joined-read.ensures) (sym c.operator.ensures ∙ c.in-Some.is)

pub factor-returns-in_err-next : goal.factor-returns-in_err-next
factor-returns-in_err-next t c =
    let a = c.args in
    let k = known_columns a.known in
    let p = err_from_is_err_and c.from_residual.result c.from_residual.ensures.1 in
    rw (p.1, p.2) (subst (FactorMeets a.known.text.now a.at k a.room) (sym c.in_err-next.ensures) (factor_meets a.known.text.now a.at k a.room))

pub factor-returns-then-room-eq0 : goal.factor-returns-then-room-eq0
factor-returns-then-room-eq0 t c =
    let a = c.args in
    open_deep a.known.text.now a.at (known_columns a.known) a.room (sym c.in_ok-next.ensures) c.in-Open.is c.if-room-eq0.true

pub factor-expression-requires : goal.factor-expression-requires
factor-expression-requires t c =
    let a = c.args in
    let p = factor_past a.known.text.now a.at (known_columns a.known) a.room (sym c.in_ok-next.ensures) in
    (omega (arith, p.0, p.1), c.requires)

pub factor-returns-in_err-inner-in-Open : goal.factor-returns-in_err-inner-in-Open
factor-returns-in_err-inner-in-Open t c =
    let a = c.args in
    let p = err_from_is_err_and c.from_residual-in_err-inner-in-Open.result c.from_residual-in_err-inner-in-Open.ensures.1 in
    rw (p.1, p.2) (open_refused a.known.text.now a.at (known_columns a.known) a.room (sym c.in_ok-next.ensures) c.in-Open.is c.if-room-eq0.false c.in_err-inner-in-Open.ensures)

pub factor-returns-in_err-figures-in-Open : goal.factor-returns-in_err-figures-in-Open
factor-returns-in_err-figures-in-Open t c =
    let a = c.args in
    let s = a.known.text.now in
    let k = known_columns a.known in
    let p = err_from_is_err_and c.from_residual-in_err-figures-in-Open.result c.from_residual-in_err-figures-in-Open.ensures.1 in
    rw (p.1, p.2) (subst (λ r. ParsesAs s a.at k factor a.room (followed_by s r)) (sym c.in_err-figures-in-Open.ensures) (open_closed s a.at k a.room (sym c.in_ok-next.ensures) c.in-Open.is c.if-room-eq0.false c.in_ok-inner-in-Open.ensures))

pub factor-bound-figures-requires : goal.factor-bound-figures-requires
factor-bound-figures-requires t c =
    let a = c.args in
    let f = name_found a.known.text.now a.at (known_columns a.known) a.room (sym c.in_ok-next.ensures) c.in-Name.i c.in-Name.is in
    omega (arith, known_below a.known f.0 c.in-Name.i f.1, c.requires.few)

pub factor-returns : goal.factor-returns
factor-returns t c =
    let a = c.args in
    let s = a.known.text.now in
    let k = known_columns a.known in
    let e = sym c.in_ok-next.ensures in
    elim c.match-next.branch [
      | factor-in-Open+else-room-eq0+in_ok-inner-in-Open+in_ok-figures-in-Open w ↦ rw (c.sign_at.ensures, w.figures-is) (subst (λ r. ParsesAs s a.at k factor a.room (followed_by s r)) (sym w.in_ok-figures-in-Open.ensures) (open_closed s a.at k a.room e w.in-Open.is w.if-room-eq0.false w.in_ok-inner-in-Open.ensures))
      | factor-in-Literal w ↦ rw (c.sign_at.ensures, w.figures-is, w.of_number-figures.ensures.same) (literal_done s a.at k a.room e _ w.in-Literal.is)
      | factor-in-Name w ↦ rw (c.sign_at.ensures, w.figures-is, w.bound-figures.ensures.same) (name_done s a.at k a.room e _ w.in-Name.is (rw w.bound-figures.ensures.same at w.bound-figures.ensures.fits))
    ]
