-- Laws of a statement's places: they lie within the line, and hold the texts that the line says.
use Rattle.std.specs.Prelude.{Some, None}
use Prim.Native.Nat.{ℕ, ◌+◌, ◌-◌, ◌<◌, ◌≤◌}
use mathlib.Core.Path.{◌≡◌, refl, sym, ap, ◌∙◌}
use mathlib.Core.List.{List}
use mathlib.Core.Bool.{true, false}
use native.Mathlib.Omega.{arith}
use lib.ListN.{length, take, drop}
use Rattle.base.specs.Ascii.{ascii}
use Rattle.base.proofs.Parts.{take-length-drop, take-drop-take, length_part}
use Rattle.base.proofs.Tests.{by_bool}
use Rattle.search.specs.First.{prefix_of, first_at}
use Rattle.search.proofs.Prefix.{fits}
use Rattle.source.proofs.Found.{by_found, in_text}
use Rattle.trim.specs.Trim.{leading_blanks, trimmed}
use Rattle.source.proofs.Trimmed.{trimmed_place_lem, trimmed_fits}
use Rattle.base.specs.declared.span.Span.{Span}
use Rattle.scope.specs.Part.{part}
use Rattle.body.specs.declared.statement.StatementSpans.{StatementSpans}
use Rattle.body.specs.declared.statement.StatementSpans.TheVariants.{Skipped, NoEquals, Let, Return}
use Rattle.body.specs.Statement.{returns, let_of, statement}
use Rattle.body.specs.Code.Places.{trimmed_in, let_at, trimmed_at, statement_at, texts, Inside, AllInside, StatementStands}

module _ (s : List ℕ) (start end : ℕ) (h : start ≤ end) (k : end ≤ length s) where
  pub part_length : length (part s start end) ≡ end - start
  part_length = length_part s start end h k

  pub trimmed_inside : Inside start end (trimmed_in s start end)
  trimmed_inside = let f = trimmed_fits (part s start end) in let n = part_length in record { low = omega arith; ordered = omega arith; high = omega arith }

  pub trimmed_is : let t = trimmed_in s start end in part s t.start t.end ≡ trimmed (part s start end)
  trimmed_is =
      let t = part s start end in
      let n : start + (leading_blanks t + length (trimmed t)) - (start + leading_blanks t) ≡ length (trimmed t) = omega arith in
      ap (λ (m : ℕ). take m (drop (start + leading_blanks t) s)) n
      ∙ sym (trimmed_place_lem t ∙ take-drop-take s t start (end - start) (leading_blanks t) (length (trimmed t)) (start + leading_blanks t) refl (trimmed_fits t) refl)

  -- the part behind the first j bytes
  pub part_from : (j : ℕ) → j ≤ end - start → drop j (part s start end) ≡ part s (start + j) end
  part_from j l =
      let p = part s start end in
      let n : length p - j ≡ end - (start + j) = omega (arith, part_length) in
      sym (take-length-drop p j)
      ∙ take-drop-take s p start (end - start) j (length p - j) (start + j) refl (omega (arith, part_length)) refl
      ∙ ap (λ (m : ℕ). take m (drop (start + j) s)) n

  pub part_before : (i : ℕ) → i ≤ end - start → take i (part s start end) ≡ part s start (start + i)
  part_before i l =
      let n : i ≡ start + i - start = omega arith in
      take-drop-take s (part s start end) start (end - start) 0 i start refl (omega (arith, part_length)) (omega arith)
      ∙ ap (λ (m : ℕ). take m (drop start s)) n

module _ (s : List ℕ) where
  inside_more : {a b c d : ℕ} {p : Span} → a ≤ c → d ≤ b → Inside c d p → Inside a b p
  inside_more h k i = record { low = omega arith; ordered = omega arith; high = omega arith }

  all_inside_more : {a b c d : ℕ} (r : StatementSpans) → a ≤ c → d ≤ b → AllInside c d r → AllInside a b r
  all_inside_more Skipped h k i = tt
  all_inside_more NoEquals h k i = tt
  all_inside_more (Let name expr) h k i = (inside_more h k i.0, (inside_more h k i.1.0, i.1.1))
  all_inside_more (Return expr) h k i = inside_more h k i

  module _ (start end : ℕ) (h : start ≤ end) (k : end ≤ length s) where
    pub let-absent : first_at (ascii "=") (part s start end) 0 ≡ None → let_at s start end ≡ NoEquals
    let-absent e = rw e

    pub let-found : (i : ℕ) → first_at (ascii "=") (part s start end) 0 ≡ Some i → let_at s start end ≡ Let (trimmed_in s start (start + i)) (trimmed_in s (start + i + 1) end)
    let-found i e = rw e

    pub equals_inside : (i : ℕ) → first_at (ascii "=") (part s start end) 0 ≡ Some i → start + i + 1 ≤ end
    equals_inside i e = omega (arith, in_text (ascii "=") (part s start end) 0 i e, part_length s start end h k)

    let-stands : AllInside start end (let_at s start end) × (texts s (let_at s start end) ≡ let_of (part s start end))
    let-stands =
        by_found (first_at (ascii "=") (part s start end) 0)
        (λ i e.
        let b = equals_inside i e in
        let n = trimmed_is s start (start + i) (omega arith) (omega arith) ∙ ap trimmed (sym (part_before s start end h k i (omega arith))) in
        let j : start + (i + 1) ≡ start + i + 1 = omega arith in
        let x = trimmed_is s (start + i + 1) end b k ∙ ap trimmed (sym (part_from s start end h k (i + 1) (omega arith) ∙ ap (λ (m : ℕ). part s m end) j)) in
        let u = trimmed_inside s start (start + i) (omega arith) (omega arith) in
        let v = trimmed_inside s (start + i + 1) end b k in
        rw e (
          (
            inside_more (omega arith) (omega arith) u,
            (inside_more (omega arith) (omega arith) v, omega arith),
          ),
          cc,
        ))
        (λ e. rw e (tt, refl))

  module _ (start end : ℕ) (h : start ≤ end) (k : end ≤ length s) where
    -- the place behind a word that the part starts with
    pub word_inside : (w : List ℕ) → prefix_of w (part s start end) ≡ true → start + length w ≤ end
    word_inside w e = omega (arith, fits w (part s start end) e, part_length s start end h k)

    pub at-let : prefix_of (ascii "let ") (part s start end) ≡ true → trimmed_at s start end ≡ let_at s (start + 4) end
    at-let e = rw e

    module _ (e : prefix_of (ascii "let ") (part s start end) ≡ false) where
      pub at_return : prefix_of (ascii "return ") (part s start end) ≡ true → trimmed_at s start end ≡ Return (trimmed_in s (start + 7) end)
      at_return f = rw (e, f)

      pub at_neither : prefix_of (ascii "return ") (part s start end) ≡ false → trimmed_at s start end ≡ Skipped
      at_neither f = rw (e, f)

    trimmed_stands : StatementStands s start end (part s start end) (trimmed_at s start end)
    trimmed_stands =
        by_bool (prefix_of (ascii "let ") (part s start end))
        (λ e.
        let b = word_inside (ascii "let ") e in
        let f = let-stands (start + 4) end b k in
        let g : part s (start + 4) end ≡ drop 4 (part s start end) = sym (part_from s start end h k 4 (omega arith)) in
        record {
          inside = rw e (all_inside_more (let_at s (start + 4) end) (omega arith) (omega arith) f.0);
          says = rw e (f.1 ∙ ap let_of g);
        })
        (λ e. by_bool (prefix_of (ascii "return ") (part s start end))
        (λ f.
        let b = word_inside (ascii "return ") f in
        record {
          inside = rw (e, f) (inside_more (omega arith) (omega arith) (trimmed_inside s (start + 7) end b k));
          says = rw (e, f) (ap returns (trimmed_is s (start + 7) end b k ∙ ap trimmed (sym (part_from s start end h k 7 (omega arith)))));
        })
        (λ f. record { inside = rw (e, f) tt; says = rw (e, f) refl }))

  module _ (start end : ℕ) (h : start ≤ end) (k : end ≤ length s) where
    -- the line from start to end
    pub stands : StatementStands s start end (trimmed (part s start end)) (statement_at s start end)
    stands =
        let l = trimmed_in s start end in
        let i = trimmed_inside s start end h k in
        let w = trimmed_stands l.start l.end i.ordered (omega arith) in
        record {
          inside = all_inside_more (statement_at s start end) i.low i.high w.inside;
          says = w.says ∙ ap statement (trimmed_is s start end h k);
        }

    no_word : (w : List ℕ) → end - start < length w → let l = trimmed_in s start end in prefix_of w (part s l.start l.end) ≡ false
    no_word w g =
        let l = trimmed_in s start end in
        let i = trimmed_inside s start end h k in
        by_bool (prefix_of w (part s l.start l.end))
        (λ e. absurd (let b = word_inside l.start l.end i.ordered (omega arith) w e in omega (arith, i.low, i.high)))
        (λ e. e)

    -- a line that is shorter than both words
    pub short_skipped : end - start < 4 → statement_at s start end ≡ Skipped
    short_skipped g =
        let l = trimmed_in s start end in
        let i = trimmed_inside s start end h k in
        at_neither l.start l.end i.ordered (omega arith) (no_word (ascii "let ") g) (no_word (ascii "return ") (omega arith))
