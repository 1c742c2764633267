-- `replay::function::parameters` is safe: each name lies within the text.
-- Assumes nothing.
use Rattle.std.proofs.Common.{rules, sym, ◌∙◌, arith, ap, ℕ, List, ◌≡◌, ◌≤◌, length}
use Rattle.std.specs.Prelude.{Some}
use Rattle.base.specs.declared.span.Span.{Span}
use Rattle.source.specs.declared.parameters.Parameter.{Parameter}
use Rattle.source.specs.Code.Cursor.{parameter_at}
use Rattle.source.proofs.Cursor.{next_is}
use Rattle.replay.proofs.function.parameters.Goals as goal

-- where a parameter's name stands
record Within (text : List ℕ) (name : Span) : Type 0 where
  pub ordered : name.start ≤ name.end
  pub inside : name.end ≤ length text

within : (text : List ℕ) (at : ℕ) {s : List ℕ} (p : Parameter) → s ≡ text → parameter_at s at ≡ Some p → Within text p.name
within text at p t e =
    let i = next_is text at p (ap (λ (u : List ℕ). parameter_at u at) (sym t) ∙ e) in
    record { ordered = omega (arith, i.filled); inside = omega (arith, i.before, i.fits) }

pub slice_bounds-print-count : goal.slice_bounds-print-count
slice_bounds-print-count g c = (within c.args.text.now c.loop-name.name-iterator.at _ c.loop-name.invariant.text c.in-Some.ensures.steps.1).ordered

pub slice_bounds-print-start : goal.slice_bounds-print-start
slice_bounds-print-start g c = let w = within c.args.text.now c.loop-name.name-iterator.at _ c.loop-name.invariant.text c.in-Some.ensures.steps.1 in search (rules, w.ordered, w.inside)

pub slice_bounds-print-end : goal.slice_bounds-print-end
slice_bounds-print-end g c = let w = within c.args.text.now c.loop-name.name-iterator.at _ c.loop-name.invariant.text c.in-Some.ensures.steps.1 in search (rules, w.ordered, w.inside)
