-- The verifier's test of one operation, as the tests of a block join it.
use Rattle.std.specs.Prelude.{ℕ, Bool, not, ◌&&◌, leb}
use Rattle.kinds.specs.Kinds.{Operation}
use Rattle.checks.specs.Verify.{target_fits}

abbrev pub is_bad : ℕ → Operation → Bool
is_bad n o = not (leb o.kind 15 && target_fits n o)
