use Rattle.std.proofs.Common.{◌&&◌, length, ltb}
use Rattle.perform.specs.Code.Needed.{named, Copied}
use Rattle.perform.proofs.slots.copy_named.Given as goal

abbrev pub invariant-loop-kind : goal.invariant-loop-kind
invariant-loop-kind l = Copied (λ j. named l.program.kinds.now l.program.operands.now (length l.yielded) j && ltb j l.used) l.s l.initial.d l.d
