-- `operations::verify_each` meets its contract: the operations that the loop has left decide.
use Rattle.std.proofs.Common.{rules, sym, ◌∙◌}
use Rattle.std.proofs.lemmas.Slice.Zip.{Zip-more, either_empty_from_Zip}
use Rattle.checks.proofs.Laws.{passes_one, passes_none, stops_one}
use Rattle.checks.proofs.operations.verify_each.Goals as goal

pub loop-kind-preserved : goal.loop-kind-preserved
loop-kind-preserved c =
    let z = Zip-more c.loop-kind.kind-iterator c.next.new.self _ (c.in-Some.kind, c.in-Some.operand) c.in-Some.is c.next.ensures.steps in
    c.loop-kind.invariant ∙ passes_one c.args.size c.in-Some.kind.now c.in-Some.operand.now z.0 z.1 (sym c.verify_operation.ensures ∙ c.in_ok-verify_operation.was)

pub returns-in_err-verify_operation : goal.returns-in_err-verify_operation
returns-in_err-verify_operation c =
    let z = Zip-more c.loop-kind.kind-iterator c.next.new.self _ (c.in-Some.kind, c.in-Some.operand) c.in-Some.is c.next.ensures.steps in
    let e = c.loop-kind.invariant ∙ stops_one c.args.size c.in-Some.kind.now c.in-Some.operand.now _ z.0 z.1 (sym c.verify_operation.ensures ∙ c.in_err-verify_operation.was) in
    search rules

pub returns : goal.returns
returns c = sym (c.loop-kind.invariant ∙ passes_none c.args.size (either_empty_from_Zip c.loop-kind.kind-iterator c.next.new.self _ c.in-None.is c.next.ensures.steps))
