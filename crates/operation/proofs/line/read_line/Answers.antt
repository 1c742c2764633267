-- `line::read_line` meets its contract: the line, trimmed, by what its word is.
use mathlib.Core.Path.{sym, ◌∙◌}
use native.Mathlib.Omega.{arith}
use lib.ListN.{length-drop}
use Rattle.mnemonic.proofs.Words.{rest_within}
use Rattle.operation.proofs.Trimmed.{start_within, end_within}
use Rattle.operation.proofs.line.read_line.Goals as goal

pub overflow_sub-place : goal.overflow_sub-place
overflow_sub-place c = start_within _ _ c.trim_start-from_first.ensures.text

pub slice_bounds-read_operand-count : goal.slice_bounds-read_operand-count
slice_bounds-read_operand-count c = rest_within c.trim_end-t.result.now _ _ (sym c.classify.ensures ∙ c.in-Before.is)

pub slice_bounds-read_operand-start : goal.slice_bounds-read_operand-start
slice_bounds-read_operand-start c = rest_within c.trim_end-t.result.now _ _ (sym c.classify.ensures ∙ c.in-Before.is)

pub overflow_add-place-in-Before : goal.overflow_add-place-in-Before
overflow_add-place-in-Before c =
    let last = c.trim_end-t.result.now in
    let first = c.trim_start-from_first.result.now in
    let n = rest_within last _ _ (sym c.classify.ensures ∙ c.in-Before.is) in
    let h = start_within c.args.raw.now first c.trim_start-from_first.ensures.text in
    let k = end_within first last c.trim_end-t.ensures.text in
    omega (arith, n, h, k, c.requires)

pub read_operand-requires : goal.read_operand-requires
read_operand-requires c =
    let last = c.trim_end-t.result.now in
    let first = c.trim_start-from_first.result.now in
    let n = rest_within last _ _ (sym c.classify.ensures ∙ c.in-Before.is) in
    let h = start_within c.args.raw.now first c.trim_start-from_first.ensures.text in
    let k = end_within first last c.trim_end-t.ensures.text in
    omega (arith, n, h, k, length-drop c.in-Before.n last, c.requires)
