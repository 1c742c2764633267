-- One line more of a pass, whether it writes or not.
use Rattle.std.specs.Prelude.{Result, Err}
use Prim.Native.Nat.{ℕ, ◌+◌, ◌<◌, min}
use mathlib.Core.Path.{◌≡◌, sym, ap, ◌∙◌}
use mathlib.Core.List.{List}
use mathlib.Core.Bool.{Bool, true, false}
use native.Mathlib.Omega.{arith}
use lib.ListN.{length, set, length-set}
use Rattle.base.specs.Outcome.{and_then}
use Rattle.base.proofs.Tests.{false_true}
use Rattle.lines.specs.Lines.{lines}
use Rattle.operation.specs.Line.{Rule}
use Rattle.ops.specs.Ops.{read_lines, not_empty, answer_of}
use Rattle.operation.specs.Code.Fast.{line_read_at}
use Rattle.ops.specs.Code.Passes.{Filled, PassOver}
use Rattle.operation.specs.declared.OpsError.{OpsError}
use Rattle.operation.specs.declared.OpsError.TheVariants.{Full}
use Rattle.operation.specs.declared.line.LineRead.TheVariants.{Skip, Op}
use Rattle.operation.specs.declared.line.ReadLine.{ReadLine}
use Rattle.ops.proofs.FirstPass.{Scanned, scan_skip, scan_full, scan_op}
use Rattle.ops.proofs.SecondPass.{Filling, fill_skip, fill_room, fill_op}

pub record Passing (rule : Rule) (text kinds₀ operands₀ : List ℕ) (writing : Bool) (room : ℕ) (kinds operands : List ℕ) (at line n : ℕ) : Type 0 where
  pub room_is : room ≡ min (length kinds₀) (length operands₀)
  pub scanned : Scanned rule text room at line n
  pub same_kinds : length kinds ≡ length kinds₀
  pub same_operands : length operands ≡ length operands₀
  pub kept_kinds : writing ≡ false → kinds ≡ kinds₀
  pub kept_operands : writing ≡ false → operands ≡ operands₀
  pub filling : writing ≡ true → Filling rule text kinds₀ operands₀ kinds operands at line n

module _ {rule : Rule} {text kinds₀ operands₀ kinds operands : List ℕ} {writing : Bool} {room at line n : ℕ} (p : Passing rule text kinds₀ operands₀ writing room kinds operands at line n) where
  ends : (r : Result ℕ OpsError) → r ≡ answer_of (and_then (read_lines rule text 0 (lines text) room) not_empty) → (writing ≡ true → Filled rule text kinds₀ operands₀ kinds operands)
      → PassOver rule text kinds₀ operands₀ kinds operands writing r
  ends r e f =
      record {
        answer = e ∙ ap (λ (m : ℕ). answer_of (and_then (read_lines rule text 0 (lines text) m) not_empty)) p.room_is;
        kept_kinds = p.kept_kinds;
        kept_operands = p.kept_operands;
        filled = f;
      }

  -- at a line
  module _ (h : at < length text) (r : ReadLine) (e : r ≡ line_read_at rule text at (line + 1)) where
    pub pass_skip : r.read ≡ Skip → Passing rule text kinds₀ operands₀ writing room kinds operands r.next (line + 1) n
    pass_skip q =
        record {
          room_is = p.room_is;
          scanned = scan_skip p.scanned h r e q;
          same_kinds = p.same_kinds;
          same_operands = p.same_operands;
          kept_kinds = p.kept_kinds;
          kept_operands = p.kept_operands;
          filling = λ w. fill_skip (p.filling w) h r e q;
        }

    module _ (k v : ℕ) (q : r.read ≡ Op k v) where
      pub pass_full : n ≡ room → PassOver rule text kinds₀ operands₀ kinds operands writing (Err (Full (line + 1)))
      pass_full z =
          ends (Err (Full (line + 1))) (scan_full p.scanned h r e k v q z)
          (λ w. absurd (let f = fill_room (p.filling w) h r e k v q in let m = p.room_is in omega arith))

      module _ (z : n ≡ room → ⊥) where
        pub pass_left : writing ≡ false → Passing rule text kinds₀ operands₀ writing room kinds operands r.next (line + 1) (n + 1)
        pass_left w =
            record {
              room_is = p.room_is;
              scanned = scan_op p.scanned h r e k v q z;
              same_kinds = p.same_kinds;
              same_operands = p.same_operands;
              kept_kinds = p.kept_kinds;
              kept_operands = p.kept_operands;
              filling = λ u. false_true (sym w ∙ u);
            }

        pub pass_written : writing ≡ true → Passing rule text kinds₀ operands₀ writing room (set kinds n k) (set operands n v) r.next (line + 1) (n + 1)
        pass_written w =
            record {
              room_is = p.room_is;
              scanned = scan_op p.scanned h r e k v q z;
              same_kinds = length-set kinds n k ∙ p.same_kinds;
              same_operands = length-set operands n v ∙ p.same_operands;
              kept_kinds = λ u. false_true (sym u ∙ w);
              kept_operands = λ u. false_true (sym u ∙ w);
              filling = λ _. fill_op (p.filling w) h r e k v q;
            }
