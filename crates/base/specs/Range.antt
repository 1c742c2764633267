-- Ranges of numbers.
use Rattle.std.specs.Prelude.{ℕ, Bool, ◌&&◌, leb}

-- lo to hi, both included: the ABNF's %xLO-HI
abbrev pub within : ℕ → ℕ → ℕ → Bool
within lo hi a = leb lo a && leb a hi
