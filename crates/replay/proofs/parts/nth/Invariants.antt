use Rattle.std.proofs.Common.{◌≤◌, length}
use Rattle.replay.proofs.parts.nth.Given as goal

abbrev pub invariant-loop : goal.invariant-loop
invariant-loop l = length l.rest ≤ length l.text
