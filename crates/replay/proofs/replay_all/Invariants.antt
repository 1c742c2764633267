use Rattle.std.proofs.Common.{◌≤◌, ◌≡◌, length}
use Rattle.replay.proofs.replay_all.Given as goal

abbrev pub invariant-loop : goal.invariant-loop
invariant-loop g l = (l.held ≤ length l.buffer) × (length l.buffer ≡ length l.initial.buffer)
