-- A part of what a slice lends.
use Rattle.std.specs.Prelude.{ℕ, ◌+◌, ◌≡◌, List}
use Rattle.std.specs.Borrow.{Bor}

-- r is the part of s that starts at an offset, and these are its bytes
pub record Part (s r : Bor (List ℕ)) (at : ℕ) (bytes : List ℕ) : Type 0 where
  pub text : r.now ≡ bytes
  pub block : r.ref_ptr.0 ≡ s.ref_ptr.0
  pub offset : r.ref_ptr.1 ≡ s.ref_ptr.1 + at
