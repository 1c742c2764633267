-- What is kept of bindings that were written: it stays where the output grows, one more is kept, and one that is kept is written once more.
use Prim.Native.Nat.{ℕ, zero, suc, ◌+◌, ◌-◌, ◌<◌, ◌≤◌}
use mathlib.Core.Path.{◌≡◌, refl, ap, subst, ◌∙◌}
use mathlib.Core.List.{List}
use native.Mathlib.Omega.{arith}
use lib.ListN.{length, get_or, set, replicate, length-set}
use lib.Seq.{slice, length-slice, get_or-set_same, get_or-set_other}
use Rattle.std.specs.Prelude.{Option, Some, None}
use Rattle.base.proofs.Tests.{by_eqb}
use Rattle.bindings.specs.Code.Source.{Sources, tree_of}
use Rattle.grammar.specs.Code.Texts.{text_of}
use Rattle.writer.specs.Code.Overwrites.{Overwrites}
use Rattle.writer.proofs.Pieces.{overwrites_slice, overwrites_there}
use Rattle.base.specs.declared.span.Span.{Span}
use Rattle.emission.specs.Code.Emitted.{Before, KeepsWritten}

module _ {s : List ℕ} {c : Sources} where
  pub kept_put : {out : List ℕ} {to : ℕ} {pieces : List (Option Span)} {bytes after : List ℕ} {r : ℕ} → KeepsWritten s c out to pieces → Overwrites out to bytes after r → to + length bytes ≤ length out → KeepsWritten s c after r pieces
  kept_put k p h = record {
    full = k.full;
    before = λ i q z. let b = k.before i q z in record { ordered = b.ordered; before = omega (arith, b.before, p.next) };
    holds = λ i q z. overwrites_slice p h q.start q.end (k.before i q z).before ∙ k.holds i q z;
  }

  -- binding b, written from a place on
  module _ (b : ℕ) {before : List ℕ} {at : ℕ} {out : List ℕ} {to : ℕ} {pieces : List (Option Span)} (k : KeepsWritten s c out to pieces) (p : Overwrites before at (text_of (tree_of s c b)) out to) (h : at + length (text_of (tree_of s c b)) ≤ length before) (few : b < 256) where
    abbrev it : Span
    it = record { start = at; end = to }

    pub kept_mark : KeepsWritten s c out to (set pieces b (Some it))
    kept_mark = record {
      full = simp length-set k.full;
      before = λ i q z. (marked i q z).0;
      holds = λ i q z. (marked i q z).1;
    }
      where
        same : (q : Span) → Some it ≡ Some q → it ≡ q
        same q e = cc

        marked : (i : ℕ) (q : Span) → get_or (set pieces b (Some it)) i None ≡ Some q → Before q to × (slice q.start q.end out ≡ text_of (tree_of s c i))
        marked i q z =
            by_eqb i b
            (λ e.
            let y : Some it ≡ Some q = rw (e, get_or-set_same pieces b (Some it) None (omega (arith, k.full))) at z in
            rw e (subst (λ (x : Span). Before x to × (slice x.start x.end out ≡ text_of (tree_of s c b))) (same q y) (record { ordered = omega (arith, p.next); before = omega arith }, overwrites_there p h)))
            (λ e.
            let y = rw (get_or-set_other pieces b i (Some it) None e) at z in
            (k.before i q y, k.holds i q y))

  -- what binding b wrote is kept
  module _ (b : ℕ) {out : List ℕ} {at : ℕ} {pieces : List (Option Span)} (k : KeepsWritten s c out at pieces) (room : at + length (text_of (tree_of s c b)) ≤ length out) {q : Span} (e : get_or pieces b None ≡ Some q) where
    size : q.end - q.start ≡ length (text_of (tree_of s c b))
    size = let o = k.before b q e in omega (arith, ap length (k.holds b q e), length-slice q.start q.end out (omega (arith, o.before)))

    pub again_fits : Before q at × (at + (q.end - q.start) ≤ length out)
    again_fits = (k.before b q e, omega (arith, size))

    pub again_put : {after : List ℕ} {r : ℕ} → Overwrites out at (slice q.start q.end out) after r → Overwrites out at (text_of (tree_of s c b)) after r
    again_put p = rw (k.holds b q e) at p

nones : (n i : ℕ) → ◌≡◌ {A = Option Span} (get_or (replicate n None) i None) None
nones zero i = refl
nones (suc n) zero = refl
nones (suc n) (suc i) = nones n i

not_none : {P : Type 0} (p : Span) {x : Option Span} → x ≡ None → x ≡ Some p → P
not_none p e f = absurd (let z : ◌≡◌ {A = ℕ} 0 1 = cc in omega arith)

-- nothing is kept at first
pub kept_none : (s : List ℕ) (c : Sources) (out : List ℕ) (at : ℕ) → KeepsWritten s c out at (replicate 256 None)
kept_none s c out at = record {
  full = refl;
  before = λ i p z. not_none p (nones 256 i) z;
  holds = λ i p z. not_none p (nones 256 i) z;
}
