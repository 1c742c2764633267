-- Two bytes that are the same.
use Rattle.std.specs.Prelude.{ℕ, Bool, ◌&&◌, ◌==◌}

-- all before agreed, and so do the two bytes of a pair
abbrev pub and_same : Bool → ℕ × ℕ → Bool
and_same same p = same && (p.0 == p.1)
