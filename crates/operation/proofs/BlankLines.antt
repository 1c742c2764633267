-- Lines with White_Space at their start and their end, read from their start on.
use Prim.Native.Nat.{ℕ, suc, ◌+◌, ◌<◌}
use mathlib.Core.Path.{◌≡◌, refl, sym, ap, ap₂, subst, ◌∙◌}
use mathlib.Core.List.{List, [], ◌∷◌, ◌++◌, append_assoc, append-nil}
use mathlib.Core.Bool.{true, false}
use borrow.Author.Tests.{eq-eqb, ne_eqb}
use native.Mathlib.Omega.{arith}
use lib.ListN.{length, get_or, drop, length-append}
use Rattle.base.specs.Range.{within}
use Rattle.base.proofs.Tests.{false_true, by_eqb, between, above}
use Rattle.base.proofs.Parts.{drop_cons_at}
use Rattle.search.specs.First.{prefix_of}
use Rattle.search.proofs.Prefix.{split}
use Rattle.lines.specs.Lines.{feed_free}
use Rattle.lines.specs.Code.Returns.{less_return}
use Rattle.lines.specs.Cursor.{span, first_line}
use Rattle.lines.specs.Code.Visits.{feed_from, head_of}
use Rattle.lines.proofs.Written.{free_cons, free_append, line_then}
use Rattle.lines.proofs.Cursor.{fed}
use Rattle.trim.specs.Trim.{white1, start_trimmed, end_trimmed, trimmed}
use Rattle.trim.specs.Code.Blank.{blanks_len}
use Rattle.trim.proofs.Laws.{start_stays}
use Rattle.trim.proofs.Suffix.{end_start}
use Rattle.trim.proofs.Blanks.{Blank, none, one, three, Blanks, blanks, no_blank, wide, start_blank, end_blank}
use Rattle.kinds.specs.Kinds.{kind_of}
use Rattle.mnemonic.specs.Kinds.{line_with}
use Rattle.operation.specs.Line.{Rule, ReadsDigits, skipped, line_of}
use Rattle.plain_op.specs.Code.Plain.{OperationAt}
use Rattle.operation.specs.Code.Fast.{line_read_at, Indented}
use Rattle.operation.specs.declared.line.LineRead.{LineRead}
use Rattle.operation.specs.declared.line.LineRead.TheVariants.{Skip, Op}
use Rattle.operation.proofs.PlainLines.{digits_graphic, Reads, reads}
use Rattle.operation.proofs.Trimmed.{skip_read}

span_free : (s t : List ℕ) → feed_free s ≡ true → span (s ++ (10 ∷ t)) ≡ suc (length s)
span_free [] t e = refl
span_free (a ∷ s) t e =
    by_eqb a 10
    (λ h. false_true (sym (rw h refl) ∙ e))
    (λ h. rw (ne_eqb a 10 h, span) (ap suc (span_free s t (sym (free_cons a s h) ∙ e))))

-- White_Space within a line has no line feed, and stays such without a carriage return at its end
blank_free : {b : List ℕ} → Blank b → feed_free b ≡ true
blank_free none = refl
blank_free (one {a} {s} e n h) = free_cons a s n ∙ blank_free h
blank_free (three {a} {b} {c} {s} e h) =
    let w = wide a b c e in
    free_cons a (b ∷ c ∷ s) (λ q. omega arith) ∙ free_cons b (c ∷ s) (λ q. omega arith) ∙ free_cons c s (λ q. omega arith) ∙ blank_free h

less_blank : {b : List ℕ} → Blank b → Blank (less_return b)
less_blank none = none
less_blank (one {a = a} {s = []} e n h) = by_eqb a 13 (λ q. rw q none) (λ q. rw (ne_eqb a 13 q, less_return) (one e n none))
less_blank (one {a = a} {s = c ∷ s} e n h) = one e n (less_blank h)
less_blank (three {a = a} {b = b} {c = c} {s = []} e h) =
    let w = wide a b c e in
    rw (ne_eqb c 13 (λ q. omega arith), less_return) (three e none)
less_blank (three {a = a} {b = b} {c = c} {s = d ∷ s} e h) = three e (less_blank h)

less_append : (x : List ℕ) (c : ℕ) (s : List ℕ) → less_return (x ++ c ∷ s) ≡ x ++ less_return (c ∷ s)
less_append [] c s = refl
less_append (a ∷ []) c s = refl
less_append (a ∷ b ∷ x) c s = ap (λ (t : List ℕ). a ∷ t) (less_append (b ∷ x) c s)

-- behind a text that keeps its end
less_behind : (x : List ℕ) {b : List ℕ} → less_return x ≡ x → Blank b → (y : List ℕ) × Blank y × (less_return (x ++ b) ≡ x ++ y)
less_behind x {b = []} e h = ([], none, ap less_return (append-nil x) ∙ e ∙ sym (append-nil x))
less_behind x {b = c ∷ s} e h = (less_return (c ∷ s), less_blank h, less_append x c s)

-- the line at a place, by what stands before the line feed
line_is : (rule : Rule) (text : List ℕ) (at line : ℕ) (l t : List ℕ) (next : ℕ) (x : LineRead) → drop at text ≡ l ++ 10 ∷ t → feed_free l ≡ true → next ≡ at + suc (length l)
    → line_of rule line at (less_return l) ≡ x → line_read_at rule text at line ≡ record { read = x; next = next }
line_is rule text at line l t next x e f p q =
    ap₂ (λ x y. record { read = x; next = y })
    (ap (λ (s : List ℕ). line_of rule line at (first_line s)) e ∙ ap (λ ls. line_of rule line at (head_of ls)) (line_then l t f) ∙ q)
    (ap (λ (s : List ℕ). at + span s) e ∙ ap (λ (m : ℕ). at + m) (span_free l t f) ∙ sym p)

-- White_Space alone is skipped
blank_skip : {b : List ℕ} → Blank b → (rule : Rule) (line start : ℕ) → line_of rule line start b ≡ Skip
blank_skip {b} h rule line start =
    let t : start_trimmed b ≡ [] = ap start_trimmed (sym (append-nil b)) ∙ start_blank h [] in
    skip_read b (start_trimmed b) (trimmed b) refl refl rule line start (ap (λ (x : List ℕ). skipped (end_trimmed x)) t)

-- so is a remark
pub remark_kept : (x : List ℕ) → (y : List ℕ) × (less_return (35 ∷ x) ≡ 35 ∷ y)
remark_kept [] = ([], refl)
remark_kept (b ∷ x) = (less_return (b ∷ x), refl)

pub remark_skip : {b : List ℕ} → Blank b → (y : List ℕ) (rule : Rule) (line start : ℕ) → line_of rule line start (b ++ 35 ∷ y) ≡ Skip
remark_skip {b} h y rule line start =
    let s : List ℕ = 35 ∷ y in
    let t : start_trimmed (b ++ s) ≡ s = start_blank h s ∙ start_stays 35 y refl (λ e. omega arith) (λ e f. omega arith) in
    let e = end_start s in
    skip_read (b ++ s) (start_trimmed (b ++ s)) (trimmed (b ++ s)) refl refl rule line start
    (ap (λ (x : List ℕ). skipped (end_trimmed x)) t ∙ first (end_trimmed s) e.0 e.1)
  where
    first : (z p : List ℕ) → 35 ∷ y ≡ z ++ p → skipped z ≡ true
    first [] p e = refl
    first (c ∷ z) p e = let q : c ≡ 35 = cc in eq-eqb c 35 q

-- an operation between White_Space, when trimmed
trim_between : {b y : List ℕ} → Blank b → Blank y → (w : List ℕ) → within 65 90 (get_or w 0 0) ≡ true → trimmed w ≡ w → trimmed (b ++ (w ++ y)) ≡ w
trim_between h k [] e t = false_true e
trim_between {b} {y} h k (a ∷ w) e t =
    ap end_trimmed (start_blank h (a ∷ w ++ y) ∙ stays (w ++ y)) ∙ end_blank k (a ∷ w) ∙ ap end_trimmed (sym (stays w)) ∙ t
  where
    stays : (s : List ℕ) → start_trimmed (a ∷ s) ≡ a ∷ s
    stays s =
        let r = between 65 90 a e in
        let white : white1 a ≡ false = simp (above 0x09 0x0D a (omega arith), ne_eqb a 0x20 (λ e. omega arith)) in
        start_stays a s white (λ p. omega arith) (λ p q. omega arith)

-- a line that starts with no White_Space
pub not_indented : (text : List ℕ) (at : ℕ) → at < length text → within 0x24 0x7F (get_or text at 0) ≡ true → Indented text at at
not_indented text at h e =
    let a = get_or text at 0 in
    let r = between 0x24 0x7F a e in
    let white : white1 a ≡ false = simp (above 0x09 0x0D a (omega arith), ne_eqb a 0x20 (λ e. omega arith)) in
    let n : blanks_len (drop at text) ≡ 0 = ap blanks_len (drop_cons_at text at (at + 1) h refl) ∙ no_blank a (drop (at + 1) text) (simp white) r.1 in
    record { within = h; is = omega (arith, n) }

pub indent : (text : List ℕ) (at first : ℕ) → Indented text at first → Blanks text at first
indent text at first i = let h = i.within in subst (Blanks text at) (sym i.is) (blanks text at (omega arith))

module _ (text : List ℕ) (at first : ℕ) (b : Blanks text at first) (rule : Rule) (line : ℕ) where
  pub blank_read : prefix_of (10 ∷ []) (drop first text) ≡ true → line_read_at rule text at line ≡ record { read = Skip; next = first + 1 }
  blank_read e =
      let l = b.between in
      let p = b.place in
      line_is rule text at line l (drop 1 (drop first text)) (first + 1) Skip
      (b.stands ∙ ap (λ (s : List ℕ). l ++ s) (split (10 ∷ []) (drop first text) e)) (blank_free b.is) (omega arith)
      (blank_skip (less_blank b.is) rule line at)

  pub remark_read : prefix_of (35 ∷ []) (drop first text) ≡ true → feed_from text first < length text
      → line_read_at rule text at line ≡ record { read = Skip; next = feed_from text first + 1 }
  remark_read e h =
      let r = fed text first b.fits h in
      go r.before r.free r.stands r.place
    where
      feed : ℕ
      feed = feed_from text first

      go : (x : List ℕ) → feed_free x ≡ true → drop first text ≡ x ++ 10 ∷ drop (feed + 1) text → feed ≡ first + length x
          → line_read_at rule text at line ≡ record { read = Skip; next = feed + 1 }
      go [] f d p = false_true (sym (ap (prefix_of (35 ∷ [])) d) ∙ e)
      go (c ∷ x) f d p =
          let l = b.between in
          let q : drop first text ≡ 35 ∷ drop 1 (drop first text) = split (35 ∷ []) (drop first text) e in
          let z : c ≡ 35 = cc in
          let n = b.place in
          let k = remark_kept x in
          line_is rule text at line (l ++ c ∷ x) (drop (feed + 1) text) (feed + 1) Skip
          (b.stands ∙ ap (λ (s : List ℕ). l ++ s) d ∙ sym (append_assoc l (c ∷ x) (10 ∷ drop (feed + 1) text)))
          (free_append l (c ∷ x) (blank_free b.is) ∙ f)
          (omega (arith, length-append l (c ∷ x)))
          (ap (line_of rule line at) (less_append l c x ∙ ap (λ (a : ℕ). l ++ less_return (a ∷ x)) z ∙ ap (λ (s : List ℕ). l ++ s) k.1)
          ∙ remark_skip b.is k.0 rule line at)

  pub operation_read : ReadsDigits rule → (k v end feed : ℕ) → OperationAt text first k v end → Blanks text end feed → prefix_of (10 ∷ []) (drop feed text) ≡ true
      → line_read_at rule text at line ≡ record { read = Op k v; next = feed + 1 }
  operation_read plain k v end feed o n h =
      let d = o.digits in
      let r = reads rule k d o.number (digits_graphic d o.all) o.some (plain (kind_of k).operand d o.all ∙ o.is) o.below in
      go (line_with k d) r refl
    where
      go : (w : List ℕ) → Reads rule k o.digits o.number → w ≡ line_with k o.digits → line_read_at rule text at line ≡ record { read = Op k v; next = feed + 1 }
      go w r u =
          let l = b.between in
          let y = n.between in
          let t = drop 1 (drop feed text) in
          let p = b.place in
          let q = o.place in
          let m = n.place in
          let e = kept w (rw u r.letter) (rw u r.plain.unreturned) in
          let s = less_behind (l ++ w) e n.is in
          line_is rule text at line ((l ++ w) ++ y) t (feed + 1) (Op k v)
          (b.stands ∙ ap (λ (s : List ℕ). l ++ s) (o.stands ∙ ap₂ ◌++◌ (sym u) (n.stands ∙ ap (λ (s : List ℕ). y ++ s) (split (10 ∷ []) (drop feed text) h)))
          ∙ sym (append_assoc l w (y ++ 10 ∷ t)) ∙ sym (append_assoc (l ++ w) y (10 ∷ t)))
          (free_append (l ++ w) y (free_append l w (blank_free b.is) ∙ rw u r.plain.free) ∙ blank_free n.is)
          (omega (arith, length-append (l ++ w) y, length-append l w, ap length u))
          (ap (line_of rule line at) (s.2 ∙ append_assoc l w s.0)
          ∙ r.is line at (l ++ (w ++ s.0)) (trim_between b.is s.1 w (rw u r.letter) (rw u r.plain.untrimmed) ∙ u)
          ∙ ap (Op k) (sym o.operand))
        where
          kept : (w : List ℕ) → within 65 90 (get_or w 0 0) ≡ true → less_return w ≡ w → less_return (b.between ++ w) ≡ b.between ++ w
          kept [] e f = false_true e
          kept (c ∷ w) e f = less_append b.between c w ∙ ap (λ (s : List ℕ). b.between ++ s) f
