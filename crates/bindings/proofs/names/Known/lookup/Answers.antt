-- `Known::lookup` meets its contract: the bindings passed have other names.
use Prim.Native.Nat.{◌-◌}
use native.Mathlib.Omega.{arith}
use mathlib.Core.Path.{sym, ◌∙◌}
use Rattle.bindings.proofs.Lookup.{found_here, found_older, found_none}
use Rattle.bindings.proofs.Tags.{passes_same}
use Rattle.bindings.proofs.names.Known.lookup.Goals as goal

pub loop-left-init : goal.loop-left-init
loop-left-init c =
    let k = c.args.self in
    let e = c.tag_of-tag.ensures in
    let p = c.passed-left.ensures in
    (omega (arith, p.fewer), (e, passes_same k.text.now k.table.now.name_start k.table.now.name_len k.values.now.tag _ k.count _ _ (omega arith) p e))

pub returns-then-is_called : goal.returns-then-is_called
returns-then-is_called c =
    let k = c.args.self in
    let l = c.loop-left in
    sym (l.invariant.1.1 ∙ found_here k.text.now k.table.now.name_start k.table.now.name_len k.values.now.tag _ l.left c.loop-left-test.true (sym c.is_called.ensures ∙ c.if-is_called.true))

pub loop-left-smaller : goal.loop-left-smaller
loop-left-smaller c = omega (arith, c.passed-left-in-loop-left.ensures.fewer, c.loop-left-test.true)

pub loop-left-preserved : goal.loop-left-preserved
loop-left-preserved c =
    let k = c.args.self in
    let l = c.loop-left in
    let h = c.loop-left-test.true in
    let p = c.passed-left-in-loop-left.ensures in (
      omega (arith, p.fewer, l.invariant.0),
      (
        l.invariant.1.0,
        l.invariant.1.1
            ∙ found_older k.text.now k.table.now.name_start k.table.now.name_len k.values.now.tag _ l.left h (sym c.is_called.ensures ∙ c.if-is_called.false)
            ∙ passes_same k.text.now k.table.now.name_start k.table.now.name_len k.values.now.tag _ (l.left - 1) _ _ (omega arith) p l.invariant.1.0,
      ),
    )

pub returns : goal.returns
returns c =
    let k = c.args.self in
    sym (c.loop-left.invariant.1.1 ∙ found_none k.text.now k.table.now.name_start k.table.now.name_len k.values.now.tag _ c.loop-left.left c.loop-left-test.false)
