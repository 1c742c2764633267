-- Lines that stand as they are: a word, or a word, a space and digits.
use Rattle.std.specs.Prelude.{Some}
use Prim.Native.Nat.{ℕ, suc, ◌+◌, ◌-◌, ◌<◌}
use mathlib.Core.Path.{◌≡◌, refl, sym, ap, subst, ◌∙◌}
use mathlib.Core.List.{List, [], ◌∷◌, ◌++◌, append_assoc, append-nil}
use mathlib.Core.Bool.{Bool, true, false, cond, ◌&&◌}
use borrow.Author.Tests.{ne_eqb}
use native.Mathlib.Omega.{arith}
use lib.ListN.{length, get_or, drop}
use Rattle.base.specs.Range.{within}
use Rattle.base.specs.Lists.{is_not, all}
use Rattle.base.proofs.Tests.{false_true, and_left, and_right, between, inside, above}
use Rattle.base.proofs.Lists.{all_weaker, all_at}
use Rattle.utf8.specs.Utf8.{utf8}
use Rattle.utf8.proofs.Lead.{one_is}
use Rattle.utf8.proofs.Encoding.{append}
use Rattle.lines.specs.Lines.{lines, feed_free}
use Rattle.lines.specs.Code.Returns.{less_return}
use Rattle.lines.proofs.Written.{free_cons, free_append, line_then}
use Rattle.trim.specs.Trim.{white1, start_trimmed, trimmed}
use Rattle.trim.proofs.Laws.{trimmed_kept}
use Rattle.decimal.specs.Decimal.{digit}
use Rattle.kinds.specs.Kinds.{kind_of}
use Rattle.kinds.proofs.ByKind.{span, ◌&◌, end}
use Rattle.mnemonic.specs.Kinds.{follows, line_with, head_with, head_of}
use Rattle.operation.specs.Line.{Rule, skipped, of_number, head_read, line_of}
use Rattle.mnemonic.specs.declared.Head.TheVariants.{Alone, Before}
use Rattle.operation.specs.declared.line.LineRead.TheVariants.{Op}
use Rattle.operation.proofs.Trimmed.{part_read}

-- ASCII without White_Space and controls
abbrev pub graphic : ℕ → Bool
graphic a = within 33 126 a

not_white : (a : ℕ) → graphic a ≡ true → white1 a ≡ false
not_white a e = let b = between 33 126 a e in simp (above 0x09 0x0D a (omega arith), ne_eqb a 0x20 (λ e. omega arith))

last_append : (a : ℕ) (s : List ℕ) (b : ℕ) (t : List ℕ) → get_or (a ∷ (s ++ (b ∷ t))) (length (s ++ (b ∷ t))) 0 ≡ get_or (b ∷ t) (length t) 0
last_append a [] b t = refl
last_append a (c ∷ s) b t = last_append c s b t

pub digits_graphic : (s : List ℕ) → all digit s ≡ true → all graphic s ≡ true
digits_graphic = all_weaker digit graphic (λ a e. let b = between 48 57 a e in inside 33 126 a (omega arith) (omega arith))

-- such a text is UTF-8 on one line
graphic_utf8 : (s : List ℕ) → all graphic s ≡ true → utf8 s ≡ true
graphic_utf8 [] e = refl
graphic_utf8 (a ∷ s) e =
    let b = between 33 126 a (and_left (graphic a) (all graphic s) e) in
    one_is a s (omega arith) ∙ graphic_utf8 s (and_right (graphic a) (all graphic s) e)

graphic_free : (s : List ℕ) → all graphic s ≡ true → feed_free s ≡ true
graphic_free = all_weaker graphic (is_not 10) (λ a e. let b = between 33 126 a e in simp (ne_eqb a 10 (λ q. omega arith)))

-- what ends so has no carriage return to leave out, and what starts and ends so is trimmed
return_kept : (s t : List ℕ) → all graphic t ≡ true → 0 < length t → less_return (s ++ t) ≡ s ++ t
return_kept [] [] e h = absurd (omega arith)
return_kept [] (a ∷ []) e h = let b = between 33 126 a (and_left (graphic a) true e) in rw (ne_eqb a 13 (λ e. omega arith), less_return)
return_kept [] (a ∷ b ∷ t) e h = ap (λ (s : List ℕ). a ∷ s) (return_kept [] (b ∷ t) (and_right (graphic a) (all graphic (b ∷ t)) e) (omega arith))
return_kept (a ∷ []) [] e h = absurd (omega arith)
return_kept (a ∷ []) (b ∷ t) e h = ap (λ (s : List ℕ). a ∷ s) (return_kept [] (b ∷ t) e h)
return_kept (a ∷ b ∷ s) t e h = ap (λ (s : List ℕ). a ∷ s) (return_kept (b ∷ s) t e h)

trim_kept : (a : ℕ) (s : List ℕ) → graphic a ≡ true → graphic (get_or (a ∷ s) (length s) 0) ≡ true → trimmed (a ∷ s) ≡ a ∷ s
trim_kept a s e f =
    let z = get_or (a ∷ s) (length s) 0 in
    let b = between 33 126 a e in
    let c = between 33 126 z f in
    trimmed_kept a s (omega arith) (not_white a e) (omega arith) (not_white z f)

-- a text that stands on a line by itself, as it is
pub record Plain (s : List ℕ) : Type 0 where
  pub valid : utf8 s ≡ true
  pub free : feed_free s ≡ true
  pub unreturned : less_return s ≡ s
  pub untrimmed : trimmed s ≡ s

module _ (a : ℕ) (w : List ℕ) (e : all graphic (a ∷ w) ≡ true) where
  plain_word : Plain (a ∷ w)
  plain_word =
      record {
        valid = graphic_utf8 (a ∷ w) e;
        free = graphic_free (a ∷ w) e;
        unreturned = return_kept [] (a ∷ w) e (omega arith);
        untrimmed = trim_kept a w (and_left (graphic a) (all graphic w) e) (all_at graphic (a ∷ w) (length w) e (omega arith));
      }

  plain_number : (d : List ℕ) → all graphic d ≡ true → 0 < length d → Plain ((a ∷ w) ++ (32 ∷ d))
  plain_number [] f h = absurd (omega arith)
  plain_number (b ∷ d) f h =
      record {
        valid = append (a ∷ w) (32 ∷ b ∷ d) (graphic_utf8 (a ∷ w) e) ∙ one_is 32 (b ∷ d) (omega arith) ∙ graphic_utf8 (b ∷ d) f;
        free = free_append (a ∷ w) (32 ∷ b ∷ d) (graphic_free (a ∷ w) e) ∙ free_cons 32 (b ∷ d) (λ e. omega arith) ∙ graphic_free (b ∷ d) f;
        unreturned = ap less_return (sym (append_assoc (a ∷ w) (32 ∷ []) (b ∷ d))) ∙ return_kept ((a ∷ w) ++ (32 ∷ [])) (b ∷ d) f h ∙ append_assoc (a ∷ w) (32 ∷ []) (b ∷ d);
        untrimmed = trim_kept a (w ++ (32 ∷ b ∷ d)) (and_left (graphic a) (all graphic w) e)
            (ap graphic (last_append a w 32 (b ∷ d)) ∙ all_at graphic (b ∷ d) (length d) f (omega arith));
      }

-- a kind's word, and whatever follows it, is read as that kind; it starts with a letter
abbrev Told : ℕ → Type 0
Told k =
    (d : List ℕ)
    → (head_of (line_with k d) ≡ head_with k (kind_of k)) × ((within 65 90 (get_or (kind_of k).word 0 0) && all graphic (kind_of k).word) ≡ true)

told : (k : ℕ) → k < 16 → Told k
told k h =
    span {P = Told} 0 16 k
    ((λ d. (refl, refl)) & (λ d. (refl, refl)) & (λ d. (refl, refl)) & (λ d. (refl, refl)) & (λ d. (refl, refl)) & (λ d. (refl, refl)) & (λ d. (refl, refl))
    & (λ d. (refl, refl)) & (λ d. (refl, refl)) & (λ d. (refl, refl)) & (λ d. (refl, refl)) & (λ d. (refl, refl)) & (λ d. (refl, refl)) & (λ d. (refl, refl))
    & (λ d. (refl, refl)) & (λ d. (refl, refl)) & end)
    (omega arith) h

drop_word : (w d : List ℕ) → drop (suc (length w)) (w ++ (32 ∷ d)) ≡ d
drop_word [] d = refl
drop_word (a ∷ w) d = drop_word w d

-- a kind's line stands by itself and starts with a letter, and a line that is it when trimmed is read as the kind and the number
pub record Reads (rule : Rule) (k : ℕ) (d : List ℕ) (v : ℕ) : Type 0 where
  pub plain : Plain (line_with k d)
  pub letter : within 65 90 (get_or (line_with k d) 0 0) ≡ true
  pub is : (line start : ℕ) (l : List ℕ) → trimmed l ≡ line_with k d → line_of rule line start l ≡ Op k (cond (follows (kind_of k).operand) v 0)

module _ (rule : Rule) (k : ℕ) (d : List ℕ) (v : ℕ) (g : all graphic d ≡ true) (h : 0 < length d) (e : rule (kind_of k).operand d ≡ Some v) where
  record Line (l : List ℕ) : Type 0 where
    plain : Plain l
    letter : within 65 90 (get_or l 0 0) ≡ true
    said : skipped l ≡ false

  line_plain : (w : List ℕ) (b : Bool) → (within 65 90 (get_or w 0 0) && all graphic w) ≡ true → Line (w ++ cond b (32 ∷ d) [])
  line_plain [] b e = false_true e
  line_plain (a ∷ w) b e =
      let f = and_right (within 65 90 a) (all graphic (a ∷ w)) e in
      let i = and_left (within 65 90 a) (all graphic (a ∷ w)) e in
      let h = between 65 90 a i in
      record { plain = line b f; letter = i; said = ne_eqb a 35 (λ e. omega arith) }
    where
      line : (b : Bool) → all graphic (a ∷ w) ≡ true → Plain ((a ∷ w) ++ cond b (32 ∷ d) [])
      line true f = plain_number a w f d g h
      line false f = subst Plain (sym (append-nil (a ∷ w))) (plain_word a w f)

  digits_kept : trimmed d ≡ d
  digits_kept = go d g h
    where
      go : (d : List ℕ) → all graphic d ≡ true → 0 < length d → trimmed d ≡ d
      go [] e h = absurd (omega arith)
      go (a ∷ d) e h = (plain_word a d e).untrimmed

  part_is : (line place : ℕ) (w : List ℕ) (b : Bool)
      → head_read rule line place (w ++ cond b (32 ∷ d) []) (cond b (Before k (length w + 1)) (Alone k)) ≡ Op k (cond b v 0)
  part_is line place w false = refl
  part_is line place w true =
      let z : length w + 1 ≡ suc (length w) = omega arith in
      let r : drop (length w + 1) (w ++ (32 ∷ d)) ≡ d = ap (λ (n : ℕ). drop n (w ++ (32 ∷ d))) z ∙ drop_word w d in
      ap (of_number k line _ _) (ap (λ (s : List ℕ). rule (kind_of k).operand (trimmed s)) r ∙ ap (rule (kind_of k).operand) digits_kept ∙ e)

  pub reads : k < 16 → Reads rule k d v
  reads p =
      let q = line_plain (kind_of k).word (follows (kind_of k).operand) (told k p d).1 in
      record { plain = q.plain; letter = q.letter; is = λ line start l e. by_part q line start l e }
    where
      by_part : Line (line_with k d) → (line start : ℕ) (l : List ℕ) → trimmed l ≡ line_with k d
          → line_of rule line start l ≡ Op k (cond (follows (kind_of k).operand) v 0)
      by_part q line start l t =
          let s = line_with k d in
          let place = start + (length l - length (start_trimmed l)) in
          part_read l (start_trimmed l) (trimmed l) refl refl rule line start (head_of (trimmed l)) (ap skipped t ∙ q.said) refl
          ∙ ap (λ (t : List ℕ). head_read rule line place t (head_of t)) t
          ∙ ap (head_read rule line place s) (told k p d).0
          ∙ part_is line place (kind_of k).word (follows (kind_of k).operand)

-- the lines of such a line, a line feed and what follows
pub plain_lines : {s : List ℕ} → Plain s → (t : List ℕ) → lines (s ++ (10 ∷ t)) ≡ s ∷ lines t
plain_lines {s} q t = line_then s t q.free ∙ ap (λ (l : List ℕ). l ∷ lines t) q.unreturned
