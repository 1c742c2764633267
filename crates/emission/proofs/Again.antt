-- A piece of a buffer, written once more behind it.
use Prim.Native.Nat.{ℕ, ◌-◌, ◌≤◌}
use mathlib.Core.Path.{◌≡◌, sym, ap, ◌∙◌}
use mathlib.Core.List.{List, ◌++◌, append_assoc}
use native.Mathlib.Omega.{arith}
use lib.ListN.{length, take, drop}
use lib.Seq.{slice, length-slice, length-take-le}
use Rattle.std.proofs.lemmas.List.{take-take}
use Rattle.base.specs.Overwrite.{overwrite}
use Rattle.base.proofs.Parts.{take-drop_slice}

-- the buffer is split at a place, and the bytes are a part of what stands before it
module _ (out : List ℕ) (at i j : ℕ) (h : i ≤ j) (l : j ≤ at) (k : at ≤ length out) where
  piece : take (j - i) (drop i (take at out)) ≡ slice i j out
  piece = take-drop_slice (take at out) i j h (omega (arith, length-take-le at out k)) ∙ ap (drop i) (take-take j at out l)

  pub copied : {before behind bytes : List ℕ} → before ≡ take at out → behind ≡ drop at out → bytes ≡ take (j - i) (drop i before)
      → before ++ (bytes ++ drop (j - i) behind) ≡ overwrite at (slice i j out) out
  copied e f g =
      let n : length (slice i j out) ≡ j - i = length-slice i j out (omega arith) in
      rw (g, e, f, piece, n) (sym (append_assoc (take at out) (slice i j out) (drop (j - i) (drop at out))))
