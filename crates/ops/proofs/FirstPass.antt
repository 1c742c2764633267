-- One line more of the first pass.
use Rattle.std.specs.Prelude.{Result, Ok, Err}
use Prim.Native.Nat.{ℕ, suc, ◌+◌, ◌-◌, ◌<◌, ◌≤◌}
use mathlib.Core.Path.{◌≡◌, refl, sym, ap, ◌∙◌}
use mathlib.Core.List.{List, [], ◌∷◌}
use mathlib.Core.Bool.{cond}
use borrow.Author.Tests.{eq-eqb, ne_eqb}
use native.Mathlib.Omega.{arith}
use native.Mathlib.Numerals.{add-one}
use lib.Dec.{eqb}
use lib.ListN.{length, drop}
use Rattle.base.specs.Outcome.{is, refused, and_then}
use Rattle.lines.specs.Lines.{lines}
use Rattle.lines.specs.Cursor.{span, first_line}
use Rattle.kinds.specs.Kinds.{Operation, operation}
use Rattle.operation.specs.Line.{Rule, line_of}
use Rattle.ops.specs.Ops.{Reading, start_of, then_read, read_lines, not_empty, answer_of}
use Rattle.operation.specs.Code.Fast.{line_read_at}
use Rattle.operation.specs.declared.OpsError.{OpsError}
use Rattle.operation.specs.declared.OpsError.TheVariants.{Full, Empty}
use Rattle.operation.specs.declared.line.LineRead.{LineRead}
use Rattle.operation.specs.declared.line.LineRead.TheVariants.{Skip, Op, Bad}
use Rattle.operation.specs.declared.line.ReadLine.{ReadLine}
use Rattle.ops.proofs.LineStarts.{next_start}
use Rattle.lines.proofs.LineAt.{onward, past}

-- where a pass is: as many lines were passed, and the next one starts here
pub record Stands (text : List ℕ) (at line : ℕ) : Type 0 where
  pub within : at ≤ length text
  pub counted : line ≤ at
  pub start : at ≡ start_of line text

pub at_first : (text : List ℕ) → Stands text 0 0
at_first text = record { within = omega arith; counted = omega arith; start = refl }

module _ {text : List ℕ} {at line : ℕ} (p : Stands text at line) where
  pub ended : (rule : Rule) (room : ℕ) → length text ≤ at → read_lines rule text line (lines (drop at text)) room ≡ is []
  ended rule room h = ap (λ (s : List ℕ). read_lines rule text line (lines s) room) (past text at h)

  -- the line that is read
  module _ (rule : Rule) (h : at < length text) (r : ReadLine) (e : r ≡ line_read_at rule text at (line + 1)) where
    pub moved : Stands text r.next (line + 1)
    moved =
        let o = onward text at h in
        let n = ap (λ (r : ReadLine). r.next) e in
        let s : start_of (line + 1) text ≡ start_of line text + span (drop (start_of line text) text) = rw add-one (next_start line text) in
        record {
          within = omega (arith, o.fits);
          counted = omega (arith, o.on, p.counted);
          start = n ∙ ap (λ (a : ℕ). a + span (drop a text)) p.start ∙ sym s;
        }

    pub onwards : at < r.next
    onwards = let o = (onward text at h).on in omega (arith, ap (λ (r : ReadLine). r.next) e)

    pub read_on : (room : ℕ) → read_lines rule text line (lines (drop at text)) room
        ≡ then_read (line + 1) room (read_lines rule text (line + 1) (lines (drop r.next text))) r.read
    read_on room =
        let more : ℕ → ℕ → Reading = λ n. read_lines rule text (line + 1) (lines (drop n text)) in
        let here = first_line (drop at text) in
        ap (λ (ls : List (List ℕ)). read_lines rule text line ls room) (onward text at h).lines
        ∙ ap (λ (a : ℕ). then_read (line + 1) room (more (at + span (drop at text))) (line_of rule (line + 1) a here)) (sym p.start)
        ∙ ap (λ (r : ReadLine). then_read (line + 1) room (more r.next) r.read) (sym e)

-- the answer, n operations having been read before
abbrev answer_after : ℕ → Reading → Result ℕ OpsError
answer_after n (is os) = cond (eqb (n + length os) 0) (Err Empty) (Ok (n + length os))
answer_after n (refused e) = Err e

after_none : (x : Reading) → answer_of (and_then x not_empty) ≡ answer_after 0 x
after_none (is []) = refl
after_none (is (o ∷ os)) =
    let z : 0 + suc (length os) ≡ suc (length os) = omega arith in
    sym (ap (λ (n : ℕ). cond (eqb n 0) (Err Empty) (Ok n)) z ∙ simp (ne_eqb (suc (length os)) 0 (λ e. omega arith)))
after_none (refused e) = refl

after_one : (n : ℕ) (o : Operation) (x : Reading) → answer_after n (and_then x (λ os. is (o ∷ os))) ≡ answer_after (n + 1) x
after_one n o (is os) = let z : n + suc (length os) ≡ n + 1 + length os = omega arith in ap (λ (n : ℕ). cond (eqb n 0) (Err Empty) (Ok n)) z
after_one n o (refused e) = refl

-- what is left to read, n operations having been counted
pub record Scanned (rule : Rule) (text : List ℕ) (room at line n : ℕ) : Type 0 where
  pub stands : Stands text at line
  pub fits : n ≤ room
  pub is : answer_of (and_then (read_lines rule text 0 (lines text) room) not_empty) ≡ answer_after n (read_lines rule text line (lines (drop at text)) (room - n))

pub scan_first : (rule : Rule) (text : List ℕ) (room : ℕ) → Scanned rule text room 0 0 0
scan_first rule text room =
    let z : room ≡ room - 0 = omega arith in
    record {
      stands = at_first text;
      fits = omega arith;
      is = after_none (read_lines rule text 0 (lines text) room) ∙ ap (λ (m : ℕ). answer_after 0 (read_lines rule text 0 (lines text) m)) z;
    }

module _ {rule : Rule} {text : List ℕ} {room at line n : ℕ} (p : Scanned rule text room at line n) where
  -- at the end
  module _ (h : length text ≤ at) where
    all : answer_of (and_then (read_lines rule text 0 (lines text) room) not_empty) ≡ cond (eqb (n + 0) 0) (Err Empty) (Ok (n + 0))
    all = p.is ∙ ap (answer_after n) (ended p.stands rule (room - n) h)

    pub scan_empty : n ≡ 0 → Err Empty ≡ answer_of (and_then (read_lines rule text 0 (lines text) room) not_empty)
    scan_empty e = sym (all ∙ simp (eq-eqb (n + 0) 0 (omega arith)))

    pub scan_some : (n ≡ 0 → ⊥) → Ok n ≡ answer_of (and_then (read_lines rule text 0 (lines text) room) not_empty)
    scan_some e = let z : n + 0 ≡ n = omega arith in sym (all ∙ ap (λ (n : ℕ). cond (eqb n 0) (Err Empty) (Ok n)) z ∙ simp (ne_eqb n 0 e))

  -- at a line
  module _ (h : at < length text) (r : ReadLine) (e : r ≡ line_read_at rule text at (line + 1)) where
    says : (x : LineRead) → r.read ≡ x → answer_of (and_then (read_lines rule text 0 (lines text) room) not_empty)
        ≡ answer_after n (then_read (line + 1) (room - n) (read_lines rule text (line + 1) (lines (drop r.next text))) x)
    says x q =
        p.is
        ∙ ap (answer_after n) (read_on p.stands rule h r e (room - n))
        ∙ ap (λ (x : LineRead). answer_after n (then_read (line + 1) (room - n) (read_lines rule text (line + 1) (lines (drop r.next text))) x)) q

    pub scan_skip : r.read ≡ Skip → Scanned rule text room r.next (line + 1) n
    scan_skip q = record { stands = moved p.stands rule h r e; fits = p.fits; is = says Skip q }

    pub scan_bad : (x : OpsError) → r.read ≡ Bad x → Err x ≡ answer_of (and_then (read_lines rule text 0 (lines text) room) not_empty)
    scan_bad x q = sym (says (Bad x) q)

    module _ (k v : ℕ) (q : r.read ≡ Op k v) where
      pub scan_full : n ≡ room → Err (Full (line + 1)) ≡ answer_of (and_then (read_lines rule text 0 (lines text) room) not_empty)
      scan_full z =
          let m : room - n ≡ 0 = omega arith in
          sym (says (Op k v) q ∙ ap (λ (m : ℕ). answer_after n (then_read (line + 1) m (read_lines rule text (line + 1) (lines (drop r.next text))) (Op k v))) m)

      pub scan_op : (n ≡ room → ⊥) → Scanned rule text room r.next (line + 1) (n + 1)
      scan_op z =
          let f = p.fits in
          let m : room - n ≡ suc (room - (n + 1)) = omega arith in
          record {
            stands = moved p.stands rule h r e;
            fits = omega arith;
            is = says (Op k v) q
                ∙ ap (λ (m : ℕ). answer_after n (then_read (line + 1) m (read_lines rule text (line + 1) (lines (drop r.next text))) (Op k v))) m
                ∙ after_one n (operation k v) (read_lines rule text (line + 1) (lines (drop r.next text)) (room - (n + 1)));
          }
