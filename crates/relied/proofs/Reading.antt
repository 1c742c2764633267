-- What a caller of atc_parse_ops relies on.
use Rattle.std.specs.Prelude.{Option, Some, None}
use Prim.Native.Nat.{ℕ, zero, suc, ◌+◌, ◌*◌, ◌≤◌}
use mathlib.Core.Path.{◌≡◌, refl}
use mathlib.Core.List.{List, [], ◌∷◌, ◌++◌}
use mathlib.Core.Bool.{Bool, true, false, cond, ◌&&◌}
use borrow.Author.Tests.{leb-true}
use native.Mathlib.Omega.{arith}
use lib.Dec.{eqb, leb}
use lib.ListN.{length, drop, length-append}
use Rattle.base.proofs.Tests.{and_left, and_right}
use Rattle.utf8.specs.Utf8.{utf8}
use Rattle.search.specs.First.{prefix_of}
use Rattle.search.proofs.Prefix.{fits}
use Rattle.lines.specs.Lines.{lines}
use Rattle.trim.specs.Trim.{start_trimmed, trimmed, leading_blanks}
use Rattle.trim.proofs.Laws.{start_trimmed-length, end_trimmed-length}
use Rattle.kinds.specs.Kinds as Operands
use Rattle.kinds.specs.Kinds.{Operand, Kind, kinds, kind_of, Operation, operation}
use Rattle.mnemonic.specs.Kinds.{follows, head_with, head_from, head_of}
use Rattle.mnemonic.specs.Kinds as Kinds
use Rattle.operation.specs.Line.{Rule, from_str, bad_number, of_number, head_read, skipped, line_of}
use Rattle.operation.specs.Errors.{ops_error_numbered}
use Rattle.ops.specs.Numbers.{parsed_ops_numbered}
use Rattle.base.specs.Outcome.{is, refused, and_then}
use Rattle.ops.specs.Ops.{Reading, start_of, then_read, read_lines, not_empty, read_by, answer_of, ops_of}
use Rattle.mnemonic.specs.Written.{Each, none, one}
use Rattle.mnemonic.specs.declared.Head.{Head}
use Rattle.mnemonic.specs.declared.Head.TheVariants.{Alone, Before, Unknown}
use Rattle.operation.specs.declared.OpsError.TheVariants.{NotUtf8}
use Rattle.operation.specs.declared.line.LineRead.{LineRead}
use Rattle.operation.specs.declared.line.LineRead.TheVariants.{Skip, Op, Bad}
use Rattle.relied.specs.Numbers.{Among}
use Rattle.relied.specs.Reading.{ReadRelied}
use Rattle.relied.proofs.Among.{widen}
use Rattle.relied.proofs.Lines.{size, lines_size, lines_count}

-- a line that starts with a kind's word has two bytes or more
abbrev Worded : List ℕ → Head → Type 0
Worded t (Alone k) = (k ≤ 15) × (2 ≤ length t)
Worded t (Before k n) = (k ≤ 15) × (2 ≤ length t)
Worded t Unknown = Unit {0}

abbrev long : List Kind → Bool
long [] = true
long (w ∷ ws) = leb 2 (length w.word) && long ws

part_worded : (k : ℕ) (w : Kind) (t : List ℕ) → k ≤ 15 → 2 ≤ length w.word → Kinds.fits w t ≡ true → Worded t (head_with k w)
part_worded k w t h l = go (follows w.operand)
  where
    go : (b : Bool) → cond b (prefix_of (w.word ++ 32 ∷ []) t) (prefix_of w.word t && eqb (length t) (length w.word)) ≡ true
        → Worded t (cond b (Before k (length w.word + 1)) (Alone k))
    go true e = let m = fits (w.word ++ 32 ∷ []) t e in (h, omega (arith, length-append w.word (32 ∷ [])))
    go false e = let m = fits w.word t (and_left (prefix_of w.word t) (eqb (length t) (length w.word)) e) in (h, omega arith)

table_worded : (ws : List Kind) (k : ℕ) (t : List ℕ) → k + length ws ≤ 16 → long ws ≡ true → Worded t (head_from k ws t)
table_worded [] k t h e = tt
table_worded (w ∷ ws) k t h e = go (Kinds.fits w t) refl (table_worded ws (suc k) t (omega arith) (and_right (leb 2 (length w.word)) (long ws) e))
  where
    go : (b : Bool) → Kinds.fits w t ≡ b → Worded t (head_from (suc k) ws t) → Worded t (cond b (head_with k w) (head_from (suc k) ws t))
    go true f ih = part_worded k w t (omega arith) (leb-true 2 (length w.word) (and_left (leb 2 (length w.word)) (long ws) e)) f
    go false f ih = ih

parted_worded : (t : List ℕ) → Worded t (head_of t)
parted_worded t = table_worded kinds 0 t (omega arith) refl

-- what a line of n bytes says
abbrev Says : ℕ → LineRead → Type 0
Says n Skip = Unit {0}
Says n (Op k v) = (k ≤ 15) × (2 ≤ n)
Says n (Bad e) = Among (28 ∷ 29 ∷ 30 ∷ 31 ∷ []) (ops_error_numbered e).number

longer : (n m : ℕ) (x : LineRead) → n ≤ m → Says n x → Says m x
longer n m Skip h s = tt
longer n m (Op k v) h s = (s.0, omega (arith, s.1))
longer n m (Bad e) h s = s

number_says : (n k line place len : ℕ) (x : Option ℕ) → k ≤ 15 → 2 ≤ n → Says n (of_number k line place len x)
number_says n k line place len (Some v) h l = (h, l)
number_says n k line place len None h l = go (kind_of k).operand
  where
    go : (o : Operand) → Says n (Bad (bad_number o line place len))
    go Operands.none = refl
    go Operands.value = refl
    go Operands.slot = refl
    go Operands.target = refl

part_says : (rule : Rule) (line place : ℕ) (t : List ℕ) (x : Head) → Worded t x → Says (length t) (head_read rule line place t x)
part_says rule line place t (Alone k) h = h
part_says rule line place t (Before k n) h =
    let rest = drop n t in
    number_says (length t) k line (place + n + leading_blanks rest) (length (trimmed rest)) (rule (kind_of k).operand (trimmed rest)) h.0 h.1
part_says rule line place t Unknown h = refl

trimmed-length : (l : List ℕ) → length (trimmed l) ≤ length l
trimmed-length l = omega (arith, end_trimmed-length (start_trimmed l), start_trimmed-length l)

line_says : (rule : Rule) (line start : ℕ) (l : List ℕ) → Says (length l) (line_of rule line start l)
line_says rule line start l = go (skipped (trimmed l))
  where
    go : (b : Bool) → Says (length l) (cond b Skip (head_read rule line (start + leading_blanks l) (trimmed l) (head_of (trimmed l))))
    go true = tt
    go false =
        longer (length (trimmed l)) (length l) (head_read rule line (start + leading_blanks l) (trimmed l) (head_of (trimmed l))) (trimmed-length l)
        (part_says rule line (start + leading_blanks l) (trimmed l) (head_of (trimmed l)) (parted_worded (trimmed l)))

-- what lines give, by their count, the bytes that they take and the room
record Got (bytes room : ℕ) (os : List Operation) : Type 0 where
  kinds : Each (λ o. o.kind ≤ 15) os
  within : length os ≤ room
  third : 3 * length os ≤ bytes

record Refused (count room number : ℕ) : Type 0 where
  gives : Among (28 ∷ 29 ∷ 30 ∷ 31 ∷ 32 ∷ []) number
  roomy : count ≤ room → Among (28 ∷ 29 ∷ 30 ∷ 31 ∷ []) number

abbrev Gives : (count bytes room : ℕ) → Reading → Type 0
Gives count bytes room (is os) = Got bytes room os
Gives count bytes room (refused e) = Refused count room (ops_error_numbered e).number

skip_gives : (count bytes n room : ℕ) (r : Reading) → Gives count bytes room r → Gives (suc count) (n + 1 + bytes) room r
skip_gives count bytes n room (is os) g = record { kinds = g.kinds; within = g.within; third = omega (arith, g.third) }
skip_gives count bytes n room (refused e) g = record { gives = g.gives; roomy = λ h. g.roomy (omega arith) }

op_gives : (count bytes n room : ℕ) (o : Operation) (r : Reading) → o.kind ≤ 15 → 2 ≤ n → Gives count bytes room r → Gives (suc count) (n + 1 + bytes) (suc room) (and_then r (λ os. is (o ∷ os)))
op_gives count bytes n room o (is os) k l g = record { kinds = one k g.kinds; within = omega (arith, g.within); third = omega (arith, g.third) }
op_gives count bytes n room o (refused e) k l g = record { gives = g.gives; roomy = λ h. g.roomy (omega arith) }

line_gives : (count bytes n line room : ℕ) (more : ℕ → Reading) (x : LineRead) → Says n x → ((r : ℕ) → Gives count bytes r (more r)) → Gives (suc count) (n + 1 + bytes) room (then_read line room more x)
line_gives count bytes n line room more Skip s ih = skip_gives count bytes n room (more room) (ih room)
line_gives count bytes n line zero more (Op k v) s ih = record { gives = refl; roomy = λ h. absurd (omega arith) }
line_gives count bytes n line (suc room) more (Op k v) s ih = op_gives count bytes n room (operation k v) (more room) s.0 s.1 (ih room)
line_gives count bytes n line room more (Bad e) s ih =
    record { gives = widen (28 ∷ 29 ∷ 30 ∷ 31 ∷ []) (28 ∷ 29 ∷ 30 ∷ 31 ∷ 32 ∷ []) (ops_error_numbered e).number refl s; roomy = λ h. s }

lines_give : (rule : Rule) (text : List ℕ) (n : ℕ) (ls : List (List ℕ)) (room : ℕ) → Gives (length ls) (size ls) room (read_lines rule text n ls room)
lines_give rule text n [] room = record { kinds = none; within = omega arith; third = omega arith }
lines_give rule text n (l ∷ ls) room =
    line_gives (length ls) (size ls) (length l) (n + 1) room (read_lines rule text (n + 1) ls) (line_of rule (n + 1) (start_of n text) l)
    (line_says rule (n + 1) (start_of n text) l) (λ r. lines_give rule text (n + 1) ls r)

-- the same of a text's reading, with 0, 27 and 33
record Told (count bytes room : ℕ) (r : Reading) : Type 0 where
  kinds : Each (λ o. o.kind ≤ 15) (ops_of r)
  within : length (ops_of r) ≤ room
  third : 3 * length (ops_of r) ≤ bytes
  gives : Among (0 ∷ 27 ∷ 28 ∷ 29 ∷ 30 ∷ 31 ∷ 32 ∷ 33 ∷ []) (parsed_ops_numbered (answer_of r)).number
  roomy : count ≤ room → Among (0 ∷ 27 ∷ 28 ∷ 29 ∷ 30 ∷ 31 ∷ 33 ∷ []) (parsed_ops_numbered (answer_of r)).number

some_told : (count bytes room : ℕ) (r : Reading) → Gives count bytes room r → Told count bytes room (and_then r not_empty)
some_told count bytes room (is []) g = record { kinds = none; within = omega arith; third = omega arith; gives = refl; roomy = λ h. refl }
some_told count bytes room (is (o ∷ os)) g = record { kinds = g.kinds; within = g.within; third = g.third; gives = refl; roomy = λ h. refl }
some_told count bytes room (refused e) g = record {
  kinds = none;
  within = omega arith;
  third = omega arith;
  gives = widen (28 ∷ 29 ∷ 30 ∷ 31 ∷ 32 ∷ []) (0 ∷ 27 ∷ 28 ∷ 29 ∷ 30 ∷ 31 ∷ 32 ∷ 33 ∷ []) (ops_error_numbered e).number refl g.gives;
  roomy = λ h. widen (28 ∷ 29 ∷ 30 ∷ 31 ∷ []) (0 ∷ 27 ∷ 28 ∷ 29 ∷ 30 ∷ 31 ∷ 33 ∷ []) (ops_error_numbered e).number refl (g.roomy h);
}

-- by any rule for operands
text_told : (rule : Rule) (text : List ℕ) (room : ℕ) → Told (length (lines text)) (size (lines text)) room (read_by rule text room)
text_told rule text room = go (utf8 text)
  where
    go : (b : Bool) → Told (length (lines text)) (size (lines text)) room (cond b (and_then (read_lines rule text 0 (lines text) room) not_empty) (refused NotUtf8))
    go true = some_told (length (lines text)) (size (lines text)) room (read_lines rule text 0 (lines text) room) (lines_give rule text 0 (lines text) room)
    go false = record { kinds = none; within = omega arith; third = omega arith; gives = refl; roomy = λ h. refl }

pub read_relied : (text : List ℕ) (room : ℕ) → ReadRelied text room
read_relied text room =
    let t = text_told from_str text room in
    record {
      kinds = t.kinds;
      within = t.within;
      third = omega (arith, t.third, lines_size text);
      gives = t.gives;
      roomy = t.roomy;
      lent = λ h. t.roomy (omega (arith, lines_count text));
    }
