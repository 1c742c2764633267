use Prim.Native.Nat.{◌≤◌}
use mathlib.Core.Path.{◌≡◌}
use Rattle.bindings.specs.Code.Table.{tag_of}
use Rattle.bindings.specs.Code.Known.{known_found}
use Rattle.bindings.proofs.Lookup.{found_among}
use Rattle.bindings.proofs.names.Known.lookup.Given as goal

-- the bindings passed have other names
abbrev pub invariant-loop-left : goal.invariant-loop-left
invariant-loop-left l = (l.left ≤ l.self.count) × ((l.tag ≡ tag_of l.name) × (known_found l.self l.name ≡ found_among l.self l.left l.name))

abbrev pub decreases-loop-left : goal.decreases-loop-left
decreases-loop-left l = l.left
