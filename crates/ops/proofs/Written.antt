-- Reading what is written gives it again.
use Prim.Native.Nat.{ℕ, zero, suc, ◌+◌, ◌<◌, ◌≤◌}
use mathlib.Core.Path.{◌≡◌, refl, sym, ap, ◌∙◌}
use mathlib.Core.List.{List, [], ◌∷◌, ◌++◌, map, append_assoc}
use mathlib.Core.Bool.{Bool, true, false, cond}
use native.Mathlib.Omega.{arith}
use lib.ListN.{length}
use Rattle.base.specs.Outcome.{is, refused, and_then}
use Rattle.utf8.specs.Utf8.{utf8}
use Rattle.utf8.proofs.Lead.{one_is}
use Rattle.utf8.proofs.Encoding.{append}
use Rattle.lines.specs.Lines.{lines, feed_free}
use Rattle.lines.proofs.Written.{free_cons, line_then}
use Rattle.trim.proofs.Blanks as Blank
use Rattle.decimal.specs.Decimal.{decimal}
use Rattle.decimal.proofs.Laws.{decimal-digits, length_positive, round_trip}
use Rattle.kinds.specs.Kinds.{kind_of, Operation, operation}
use Rattle.mnemonic.specs.Kinds.{follows}
use Rattle.operation.specs.Line.{Rule, from_str, ReadsDigits, line_of}
use Rattle.ops.specs.Ops.{Reading, start_of, then_read, read_lines, not_empty, read_by, read_text}
use Rattle.mnemonic.specs.Written.{shown, written, written_all, remark, remarks, cleared, IsOperation, IsRemark, Each, none, one}
use Rattle.operation.specs.declared.line.LineRead.TheVariants.{Op}
use Rattle.operation.specs.declared.OpsError.TheVariants.{NotUtf8}
use Rattle.operation.proofs.PlainLines.{digits_graphic, Plain, Reads, reads, plain_lines}
use Rattle.operation.proofs.BlankLines.{remark_kept, remark_skip}

-- an operation's line
module _ (rule : Rule) (plain : ReadsDigits rule) where
  shown_reads : (o : Operation) → IsOperation o → Reads rule o.kind (decimal o.operand) o.operand
  shown_reads o p =
      let v = o.operand in
      let d = decimal-digits v in
      reads rule o.kind (decimal v) v (digits_graphic (decimal v) d) (length_positive v)
      (plain (kind_of o.kind).operand (decimal v) d ∙ round_trip v p.operand) p.kind

  pub shown_read : (o : Operation) → IsOperation o → (line start : ℕ) → line_of rule line start (shown o) ≡ Op o.kind (cleared o).operand
  shown_read o p line start = let r = shown_reads o p in r.is line start (shown o) r.plain.untrimmed

shown-plain : (o : Operation) → IsOperation o → Plain (shown o)
shown-plain o p = (shown_reads from_str (λ operand d e. refl) o p).plain

pub written_utf8 : (o : Operation) → IsOperation o → utf8 (written o) ≡ true
written_utf8 o p = append (shown o) (10 ∷ []) (shown-plain o p).valid

pub written-lines : (o : Operation) → IsOperation o → (t : List ℕ) → lines (written o ++ t) ≡ shown o ∷ lines t
written-lines o p t = ap lines (append_assoc (shown o) (10 ∷ []) t) ∙ plain_lines (shown-plain o p) t

-- the lines of operations
pub read_written : (rule : Rule) → ReadsDigits rule → (text : List ℕ) (n : ℕ) {os : List Operation} → Each IsOperation os → (room : ℕ) → length os ≤ room
    → read_lines rule text n (lines (written_all os)) room ≡ is (map cleared os)
read_written rule plain text n none room h = refl
read_written rule plain text n (one {a = o} {l = os} p ps) zero h = absurd (omega arith)
read_written rule plain text n (one {a = o} {l = os} p ps) (suc room) h =
    ap (λ (ls : List (List ℕ)). read_lines rule text n ls (suc room)) (written-lines o p (written_all os))
    ∙ ap (then_read (n + 1) (suc room) (read_lines rule text (n + 1) (lines (written_all os)))) (shown_read rule plain o p (n + 1) (start_of n text))
    ∙ ap (λ (x : Reading). and_then x (λ os. is (cleared o ∷ os))) (read_written rule plain text (n + 1) ps room (omega arith))

-- a remark is skipped
remark_line : (x : List ℕ) → IsRemark x → (t : List ℕ) → (y : List ℕ) × (lines (remark x ++ t) ≡ (35 ∷ y) ∷ lines t)
remark_line x p t =
    let f : feed_free (35 ∷ x) ≡ true = free_cons 35 x (λ e. omega arith) ∙ p.one_line in
    let e = ap lines (append_assoc (35 ∷ x) (10 ∷ []) t) ∙ line_then (35 ∷ x) t f in
    let k = remark_kept x in (k.0, e ∙ ap (λ (l : List ℕ). l ∷ lines t) k.1)

pub read_remarks : (rule : Rule) (text : List ℕ) (n : ℕ) {xs : List (List ℕ)} → Each IsRemark xs → (t : List ℕ) (room : ℕ)
    → read_lines rule text n (lines (remarks xs ++ t)) room ≡ read_lines rule text (n + length xs) (lines t) room
read_remarks rule text n none t room = let z : n ≡ n + 0 = omega arith in ap (λ (m : ℕ). read_lines rule text m (lines t) room) z
read_remarks rule text n (one {a = x} {l = xs} p ps) t room =
    let r = remark_line x p (remarks xs ++ t) in
    let z : n + 1 + length xs ≡ n + suc (length xs) = omega arith in
    ap (λ (s : List ℕ). read_lines rule text n (lines s) room) (append_assoc (remark x) (remarks xs) t)
    ∙ ap (λ (ls : List (List ℕ)). read_lines rule text n ls room) r.1
    ∙ ap (then_read (n + 1) room (read_lines rule text (n + 1) (lines (remarks xs ++ t)))) (remark_skip Blank.none r.0 rule (n + 1) (start_of n text))
    ∙ read_remarks rule text (n + 1) ps t room
    ∙ ap (λ (m : ℕ). read_lines rule text m (lines t) room) z

-- all of it is UTF-8
pub remarks_utf8 : {xs : List (List ℕ)} → Each IsRemark xs → (t : List ℕ) → utf8 (remarks xs ++ t) ≡ utf8 t
remarks_utf8 none t = refl
remarks_utf8 (one {a = x} {l = xs} p ps) t =
    let r : utf8 (remark x) ≡ true = append (35 ∷ x) (10 ∷ []) (one_is 35 x (omega arith) ∙ p.valid) in
    ap utf8 (append_assoc (remark x) (remarks xs) t) ∙ append (remark x) (remarks xs ++ t) r ∙ remarks_utf8 ps t

pub written_all_utf8 : {os : List Operation} → Each IsOperation os → utf8 (written_all os) ≡ true
written_all_utf8 none = refl
written_all_utf8 (one {a = o} {l = os} p ps) = append (written o) (written_all os) (written_utf8 o p) ∙ written_all_utf8 ps

-- reading the written operations, one or more, behind any remarks, gives them, an operand that is not used being 0
pub reads_written_by : (rule : Rule) → ReadsDigits rule → {xs : List (List ℕ)} {os : List Operation} → Each IsRemark xs → Each IsOperation os → 0 < length os
    → (room : ℕ) → length os ≤ room → read_by rule (remarks xs ++ written_all os) room ≡ is (map cleared os)
reads_written_by rule plain {xs} {os} ps qs h room k =
    let text = remarks xs ++ written_all os in
    let u : utf8 text ≡ true = remarks_utf8 ps (written_all os) ∙ written_all_utf8 qs in
    let e = read_remarks rule text 0 ps (written_all os) room ∙ read_written rule plain text (0 + length xs) qs room k in
    ap (λ (b : Bool). cond b (and_then (read_lines rule text 0 (lines text) room) not_empty) (refused NotUtf8)) u ∙ ap (λ (x : Reading). and_then x not_empty) e ∙ some os h
  where
    some : (os : List Operation) → 0 < length os → not_empty (map cleared os) ≡ is (map cleared os)
    some [] h = absurd (omega arith)
    some (o ∷ os) h = refl

-- by document 01's rule
pub reads_written : {xs : List (List ℕ)} {os : List Operation} → Each IsRemark xs → Each IsOperation os → 0 < length os → (room : ℕ) → length os ≤ room
    → read_text (remarks xs ++ written_all os) room ≡ is (map cleared os)
reads_written ps qs h room k = reads_written_by from_str (λ operand d e. refl) ps qs h room k

-- where it is 0 already, they are the same
pub cleared_same : (o : Operation) → (follows (kind_of o.kind).operand ≡ false → o.operand ≡ 0) → cleared o ≡ o
cleared_same o h = ap (operation o.kind) (go (follows (kind_of o.kind).operand) h)
  where
    go : (b : Bool) → (b ≡ false → o.operand ≡ 0) → cond b o.operand 0 ≡ o.operand
    go true h = refl
    go false h = sym (h refl)
