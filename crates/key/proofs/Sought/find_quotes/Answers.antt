-- `key::Sought::find_quotes` meets its contract: no place from which another byte is in reach is the first.
use mathlib.Core.Path.{sym, ◌∙◌}
use native.Mathlib.Omega.{arith}
use Rattle.search.proofs.Laws.{no_room}
use Rattle.key.specs.Key.{quoted}
use Rattle.key.proofs.Quoted.{quoted-length}
use Rattle.key.proofs.Quotes.{stands, go_on}
use Rattle.key.proofs.Sought.find_quotes.Goals as goal

pub loop-i-preserved : goal.loop-i-preserved
loop-i-preserved c =
    let w = c in
    let l = c.loop-i in
    let o = rw c.in-Some.is at c.last_other.ensures in
    l.invariant ∙ go_on w.args.self.s.now w.args.self.key.now w.requires.1 c.in-Some.j o.2 l.i o.0 (omega (arith, o.1))

pub returns-in-None : goal.returns-in-None
returns-in-None c =
    let w = c in
    let l = c.loop-i in
    let o = rw c.in-None.is at c.last_other.ensures in
    sym (l.invariant ∙ stands w.args.self.s.now w.args.self.key.now w.requires.1 l.i (omega arith) o)

pub returns : goal.returns
returns c =
    let a = c.args in
    let l = c.loop-i in
    sym (l.invariant ∙ no_room (quoted a.self.key.now) a.self.s.now l.i (omega (arith, quoted-length a.self.key.now)))
