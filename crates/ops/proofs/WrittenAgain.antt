-- What is read can be written, and reading that gives it again.
use Rattle.std.specs.Prelude.{Option, Some, None}
use Prim.Native.Nat.{ℕ, zero, suc, ◌+◌, ◌^◌, ◌<◌, ◌≤◌}
use mathlib.Core.Path.{◌≡◌, refl, sym, ap, ap₂, subst, ◌∙◌}
use mathlib.Core.List.{List, [], ◌∷◌, map}
use mathlib.Core.Bool.{Bool, true, false, cond, ◌&&◌}
use borrow.Author.Tests.{ltb-true}
use native.Mathlib.Omega.{arith}
use lib.Dec.{ltb}
use lib.ListN.{length}
use Rattle.base.specs.Outcome.{is, refused, and_then}
use Rattle.base.specs.Lists.{all}
use Rattle.base.proofs.Tests.{by_bool, false_true}
use Rattle.base.proofs.Outcome.{not_is, is_same, then_is}
use Rattle.utf8.specs.Utf8.{utf8}
use Rattle.lines.specs.Lines.{lines}
use Rattle.trim.specs.Trim.{start_trimmed, trimmed}
use Rattle.decimal.specs.Decimal.{digit, value, without_plus}
use Rattle.kinds.specs.Kinds.{kind_of, Operation, operation}
use Rattle.mnemonic.specs.Kinds.{follows, head_of}
use Rattle.operation.specs.Line.{Rule, from_str, ReadsDigits, ReadsWords, of_number, head_read, skipped, line_of}
use Rattle.ops.specs.Ops.{Reading, start_of, then_read, read_lines, not_empty, read_by, read_text}
use Rattle.mnemonic.specs.Written.{written_all, cleared, IsOperation, IsRead, Each, none, one}
use Rattle.mnemonic.specs.declared.Head.{Head}
use Rattle.mnemonic.specs.declared.Head.TheVariants.{Alone, Before}
use Rattle.operation.specs.declared.OpsError.{OpsError}
use Rattle.operation.specs.declared.OpsError.TheVariants.{NotUtf8}
use Rattle.operation.specs.declared.line.LineRead.{LineRead}
use Rattle.operation.specs.declared.line.LineRead.TheVariants.{Skip, Op, Bad}
use Rattle.mnemonic.proofs.Words.{parted_at}
use Rattle.operation.proofs.Trimmed.{skip_read, part_read}
use Rattle.ops.proofs.Written.{reads_written_by, cleared_same}

-- the numbers of `u64::from_str` fit 64 bits
pub from_str_words : ReadsWords from_str
from_str_words operand t v e = go (ltb 0 (length s)) (all digit s) e
  where
    s : List ℕ
    s = without_plus t

    same : Some (value s) ≡ Some v → value s ≡ v
    same e = cc

    large : None ≡ Some v → ⊥
    large e = let z : ◌≡◌ {A = ℕ} 0 1 = cc in omega arith

    fits : cond (ltb (value s) (2 ^ 64)) (Some (value s)) None ≡ Some v → v < 2 ^ 64
    fits e =
        by_bool (ltb (value s) (2 ^ 64))
        (λ b. omega (arith, ltb-true (value s) (2 ^ 64) b, same (sym (ap (λ (b : Bool). cond b (Some (value s)) None) b) ∙ e)))
        (λ b. absurd (large (sym (ap (λ (b : Bool). cond b (Some (value s)) None) b) ∙ e)))

    go : (a b : Bool) → cond (a && b && ltb (value s) (2 ^ 64)) (Some (value s)) None ≡ Some v → v < 2 ^ 64
    go true true e = fits e
    go true false e = absurd (large e)
    go false b e = absurd (large e)

-- by a rule whose numbers fit 64 bits
module _ (rule : Rule) (words : ReadsWords rule) where
  number_read : (k line place len : ℕ) (x : Option ℕ) → k < 16 → follows (kind_of k).operand ≡ true → ((n : ℕ) → x ≡ Some n → n < 2 ^ 64)
      → (j v : ℕ) → of_number k line place len x ≡ Op j v → IsRead (operation j v)
  number_read k line place len (Some n) h f w j v e =
      let p : k ≡ j = cc in
      let q : n ≡ v = cc in
      subst IsRead (ap₂ operation p q)
      (record { is = record { kind = h; operand = w n refl }; unused = cleared_same (operation k n) (λ g. false_true (sym g ∙ f)) })
  number_read k line place len None h f w j v e = absurd (let z : ◌≡◌ {A = ℕ} 0 1 = cc in omega arith)

  alone_read : (k : ℕ) → k < 16 → (j v : ℕ) → Op k 0 ≡ Op j v → IsRead (operation j v)
  alone_read k h j v e =
      let p : k ≡ j = cc in
      let q : ◌≡◌ {A = ℕ} 0 v = cc in
      subst IsRead (ap₂ operation p q)
      (record { is = record { kind = h; operand = omega arith }; unused = cleared_same (operation k 0) (λ g. refl) })

  -- the operation of a line
  line_read_lem : (line start : ℕ) (l : List ℕ) (j v : ℕ) → line_of rule line start l ≡ Op j v → IsRead (operation j v)
  line_read_lem line start l j v e =
      by_bool (skipped (trimmed l))
      (λ s. absurd (no_skip (sym (skip_read l (start_trimmed l) (trimmed l) refl refl rule line start s) ∙ e)))
      (λ s.
      let r = sym (part_read l (start_trimmed l) (trimmed l) refl refl rule line start (head_of (trimmed l)) s refl) ∙ e in
      parted_at (trimmed l)
      (λ u. absurd (no_bad _ (sym (ap (head_read rule line _ (trimmed l)) u) ∙ r)))
      (λ k h _ p. by_bool (follows (kind_of k).operand)
      (λ f. number_read k line _ _ _ h f (words (kind_of k).operand _) j v (sym (ap (head_read rule line _ (trimmed l)) (p ∙ ap (part k) f)) ∙ r))
      (λ f. alone_read k h j v (sym (ap (head_read rule line _ (trimmed l)) (p ∙ ap (part k) f)) ∙ r))))
    where
      no_skip : Skip ≡ Op j v → ⊥
      no_skip e = let z : ◌≡◌ {A = ℕ} 0 1 = cc in omega arith

      no_bad : (x : OpsError) → Bad x ≡ Op j v → ⊥
      no_bad x e = let z : ◌≡◌ {A = ℕ} 0 1 = cc in omega arith

      part : ℕ → Bool → Head
      part k b = cond b (Before k (length (kind_of k).word + 1)) (Alone k)

  -- the operations of lines
  then_read_lem : (line room : ℕ) (more : ℕ → Reading) (x : LineRead) → ((k v : ℕ) → x ≡ Op k v → IsRead (operation k v))
      → ((room : ℕ) (os : List Operation) → more room ≡ is os → Each IsRead os)
      → (os : List Operation) → then_read line room more x ≡ is os → Each IsRead os
  then_read_lem line room more Skip here later os e = later room os e
  then_read_lem line zero more (Op k v) here later os e = not_is e
  then_read_lem line (suc room) more (Op k v) here later os e =
      let t = then_is (more room) (λ ps. is (operation k v ∷ ps)) e in
      subst (Each IsRead) (is_same t.2) (one (here k v refl) (later room t.0 t.1))
  then_read_lem line room more (Bad x) here later os e = not_is e

  lines_read : (text : List ℕ) (n : ℕ) (ls : List (List ℕ)) (room : ℕ) (os : List Operation) → read_lines rule text n ls room ≡ is os → Each IsRead os
  lines_read text n [] room os e = subst (Each IsRead) (is_same e) none
  lines_read text n (l ∷ ls) room os e =
      then_read_lem (n + 1) room (read_lines rule text (n + 1) ls) (line_of rule (n + 1) (start_of n text) l)
      (line_read_lem (n + 1) (start_of n text) l) (λ room os e. lines_read text (n + 1) ls room os e) os e

  -- what is read: one operation or more
  pub is_read : (text : List ℕ) (room : ℕ) (os : List Operation) → read_by rule text room ≡ is os → Each IsRead os × (0 < length os)
  is_read text room os e =
      by_bool (utf8 text)
      (λ u. let t = then_is read not_empty (sym (ap whole u) ∙ e) in some t.0 t.1 t.2)
      (λ u. not_is (sym (ap whole u) ∙ e))
    where
      read : Reading
      read = read_lines rule text 0 (lines text) room

      whole : Bool → Reading
      whole b = cond b (and_then read not_empty) (refused NotUtf8)

      some : (ps : List Operation) → read ≡ is ps → not_empty ps ≡ is os → Each IsRead os × (0 < length os)
      some [] q e = not_is e
      some (o ∷ ps) q e = (lines_read text 0 (lines text) room os (q ∙ e), omega (arith, ap length (is_same e)))

operations : {os : List Operation} → Each IsRead os → Each IsOperation os
operations none = none
operations (one p ps) = one p.is (operations ps)

all_same : {os : List Operation} → Each IsRead os → map cleared os ≡ os
all_same none = refl
all_same (one {a = o} {l = os} p ps) = ap₂ (λ o os. o ∷ os) p.unused (all_same ps)

-- what one rule read is, when written, read the same by every rule that reads digits
pub read_again : (rule again : Rule) → ReadsWords rule → ReadsDigits again → (text : List ℕ) (room : ℕ) (os : List Operation) → read_by rule text room ≡ is os
    → (wide : ℕ) → length os ≤ wide → read_by again (written_all os) wide ≡ is os
read_again rule again words plain text room os e wide h =
    let r = is_read rule words text room os e in
    reads_written_by again plain none (operations r.0) r.1 wide h ∙ ap is (all_same r.0)

-- by document 01's rule
pub text_again : (text : List ℕ) (room : ℕ) (os : List Operation) → read_text text room ≡ is os
    → (wide : ℕ) → length os ≤ wide → read_text (written_all os) wide ≡ is os
text_again text room os e wide h = read_again from_str from_str from_str_words (λ operand d e. refl) text room os e wide h
