-- `key::Sought::find_last` meets its contract: from `stop` on there is no room for the key.
use Prim.Native.Nat.{◌+◌, ◌-◌}
use mathlib.Core.Path.{◌≡◌, sym, ◌∙◌}
use native.Mathlib.Omega.{arith}
use Rattle.key.proofs.Quoted.{none_behind, nowhere_else}
use Rattle.key.proofs.Sought.find_last.Goals as goal

pub returns-then-not-any_agrees : goal.returns-then-not-any_agrees
returns-then-not-any_agrees c =
    let w = c in
    let z : w.args.at + (w.args.self.stop - w.args.at) ≡ w.args.self.stop = omega arith in
    sym ((rw z at c.any_agrees.ensures) c.if-not-any_agrees.true ∙ none_behind w.args.self.s.now w.args.self.key.now w.args.at w.args.self.stop w.args.self.room)

pub returns : goal.returns
returns c =
    let w = c in
    nowhere_else w.args.self.s.now w.args.self.key.now w.args.at w.args.self.stop w.args.self.room c.find_before.result c.find_before.ensures
