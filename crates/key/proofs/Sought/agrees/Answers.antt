-- `key::Sought::agrees` meets its contract: where the key stands in double quotes, each of their bytes does, so the three do.
use Rattle.std.proofs.Common.{refl}
use Rattle.base.proofs.Tests.{and_both}
use Rattle.key.proofs.Quoted.{opening_here, closing_here, byte_here}
use Rattle.key.proofs.Sought.agrees.Goals as goal

pub returns : goal.returns
returns c =
    let a = c.args in
    let key = a.self.key.now in
    let s = a.self.s.now in
    let m = c.requires.1 in
    λ e. and_both _ _ (and_both _ _ (opening_here key s a.at e) (closing_here key s a.at e _ refl)) (byte_here key s a.at e a.mark.place _ a.mark.byte m.within refl m.is)
