-- `key::find_quoted` meets its contract: a vector that is too short has no place for the key, and behind the near places the search goes on.
use Rattle.std.proofs.Common.{◌≤◌, ◌+◌, length, ◌∙◌, sym, arith}
use Rattle.search.proofs.Laws.{no_room}
use Rattle.key.specs.Key.{quoted}
use Rattle.key.proofs.Quoted.{quoted-length}
use Rattle.key.proofs.find_quoted.Goals as goal

pub returns-in_err-stop : goal.returns-in_err-stop
returns-in_err-stop c =
    let a = c.args in
    let h : length a.key.now + 1 ≤ length a.s.now → ⊥ = c.in_err-stop.ensures in
    c.from_residual.ensures ∙ sym (no_room (quoted a.key.now) a.s.now 0 (omega (arith, quoted-length a.key.now)))
