-- A line, and what follows a kind's word in it: the trimmed text and its place.
use Prim.Native.Nat.{ℕ, ◌+◌, ◌-◌, ◌≤◌}
use mathlib.Core.Path.{◌≡◌, refl, sym, ap, ◌∙◌}
use mathlib.Core.List.{List}
use mathlib.Core.Bool.{Bool, true, false, cond}
use native.Mathlib.Omega.{arith}
use lib.ListN.{length}
use Rattle.trim.specs.Trim.{start_trimmed, end_trimmed, trimmed}
use Rattle.trim.proofs.Laws.{start_trimmed-length, end_trimmed-length}
use Rattle.mnemonic.specs.Kinds.{head_of}
use Rattle.operation.specs.Line.{Rule, skipped, head_read, line_of}
use Rattle.mnemonic.specs.declared.Head.{Head}
use Rattle.operation.specs.declared.line.LineRead.TheVariants.{Skip}

-- without the White_Space at its start, or at its end, a text is no longer
pub start_within : (s first : List ℕ) → first ≡ start_trimmed s → length first ≤ length s
start_within s first p = omega (arith, ap length p, start_trimmed-length s)

pub end_within : (first t : List ℕ) → t ≡ end_trimmed first → length t ≤ length first
end_within first t q = omega (arith, ap length q, end_trimmed-length first)

-- a text, without the White_Space at its start, and then without that at its end
module _ (s first t : List ℕ) (p : first ≡ start_trimmed s) (q : t ≡ end_trimmed first) where
  pub skip_read : (rule : Rule) (line start : ℕ) → skipped t ≡ true → line_of rule line start s ≡ Skip
  skip_read rule line start e =
      ap (λ (b : Bool). cond b Skip (head_read rule line (start + (length s - length (start_trimmed s))) (trimmed s) (head_of (trimmed s))))
      (ap skipped (ap end_trimmed (sym p) ∙ sym q) ∙ e)

  pub part_read : (rule : Rule) (line start : ℕ) (x : Head) → skipped t ≡ false → x ≡ head_of t
      → line_of rule line start s ≡ head_read rule line (start + (length s - length first)) t x
  part_read rule line start x e r =
      ap (λ (b : Bool). cond b Skip (head_read rule line (start + (length s - length (start_trimmed s))) (trimmed s) (head_of (trimmed s))))
      (ap skipped (ap end_trimmed (sym p) ∙ sym q) ∙ e)
      ∙ rw (r, q, p) refl
