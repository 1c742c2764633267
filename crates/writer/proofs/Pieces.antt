-- Laws of pieces written one after the other.
use Prim.Native.Nat.{ℕ, ◌+◌, ◌≤◌}
use mathlib.Core.Path.{◌≡◌, sym, ap, ap₂, ◌∙◌}
use mathlib.Core.List.{List, [], ◌++◌}
use native.Mathlib.Nat.{add-zero}
use native.Mathlib.Omega.{arith}
use lib.ListN.{length, length-append}
use lib.Seq.{slice}
use Rattle.base.specs.Overwrite.{overwrite}
use Rattle.base.proofs.Overwrite.{overwrite_none, overwrite-length, overwrite_slice, overwrite_there, overwrite_then}
use Rattle.writer.specs.Code.Overwrites.{Overwrites}

pub overwrites_none : (out : List ℕ) (at : ℕ) → Overwrites out at [] out at
overwrites_none out at = record { is = sym (overwrite_none at out); next = sym (add-zero at) }

module _ {out : List ℕ} {at : ℕ} {bytes mid : List ℕ} {r : ℕ} (p : Overwrites out at bytes mid r) (h : at + length bytes ≤ length out) where
  pub overwrites_length : length mid ≡ length out
  overwrites_length = ap length p.is ∙ overwrite-length at bytes out h

  pub overwrites_slice : (a b : ℕ) → b ≤ at → slice a b mid ≡ slice a b out
  overwrites_slice a b l = ap (slice a b) p.is ∙ overwrite_slice at bytes out h a b l

  pub overwrites_there : slice at r mid ≡ bytes
  overwrites_there = ap₂ (slice at) p.next p.is ∙ overwrite_there at bytes out h

  pub overwrites_then : {more new : List ℕ} {r' : ℕ} → Overwrites mid r more new r' → Overwrites out at (bytes ++ more) new r'
  overwrites_then {more} b = record {
    is = b.is ∙ ap₂ (λ (n : ℕ) (m : List ℕ). overwrite n more m) p.next p.is ∙ overwrite_then at bytes out h more;
    next = b.next ∙ simp length-append (omega (arith, p.next));
  }
