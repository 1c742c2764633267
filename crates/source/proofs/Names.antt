-- Laws of a piece's name: where it stands in the piece.
use Prim.Native.Nat.{ℕ, ◌+◌, ◌-◌, ◌≤◌}
use mathlib.Core.Path.{◌≡◌, refl, sym, ap, ◌∙◌}
use mathlib.Core.List.{List}
use native.Mathlib.Omega.{arith}
use lib.ListN.{length, take, drop}
use Rattle.base.proofs.Parts.{take-drop-take}
use Rattle.trim.specs.Trim.{leading_blanks, trimmed}
use Rattle.source.specs.Parameters.{name}
use Rattle.source.specs.Code.Cursor.{before, trimmed_span, name_span}
use Rattle.base.specs.declared.span.Span.{Span}
use Rattle.source.proofs.Cuts.{before-length, before_starts, cut_at}
use Rattle.source.proofs.Trimmed.{trimmed_place_lem, trimmed_fits}

module _ (p : List ℕ) where
  pub name_fits : (name_span p).end ≤ length p
  name_fits = omega (arith, trimmed_fits (before 0x3A (trimmed p)), before-length 0x3A (trimmed p), trimmed_fits p)

  pub name_place : name p ≡ take (length (name p)) (drop (name_span p).start p)
  name_place =
      let t = trimmed p in
      let b = before 0x3A t in
      let k = trimmed_fits b in
      trimmed_place_lem b
      ∙ take-drop-take t b 0 (length b) (leading_blanks b) (length (name p)) (leading_blanks b) (before_starts 0x3A t) k (omega arith)
      ∙ take-drop-take p t (leading_blanks p) (length t) (leading_blanks b) (length (name p)) (leading_blanks p + leading_blanks b) (trimmed_place_lem p) (omega (arith, before-length 0x3A t)) refl

-- the name by its steps: the piece trimmed, cut at the colon, trimmed again
module _ (p : List ℕ) (whole : Span) (e : whole ≡ trimmed_span p) where
  pub whole_fits : (whole.start ≤ whole.end) × (whole.end ≤ length p)
  whole_fits = let f = trimmed_fits p in rw e (omega arith, f)

  abbrev text : List ℕ
  text = take (whole.end - whole.start) (drop whole.start p)

  text_is : text ≡ trimmed p
  text_is =
      let n : leading_blanks p + length (trimmed p) - leading_blanks p ≡ length (trimmed p) = omega arith in
      rw e (ap (λ (k : ℕ). take k (drop (leading_blanks p) p)) n ∙ sym (trimmed_place_lem p))

  module _ (colon : ℕ) (f : colon ≡ cut_at 0x3A text 0) where
    pub colon_fits : colon ≤ length text
    colon_fits = omega (arith, before-length 0x3A text)

    pub name_is : (n : Span) → n ≡ trimmed_span (take colon text) → ◌≡◌ {A = Span} (record { start = whole.start + n.start; end = whole.start + n.end }) (name_span p)
    name_is n g =
        let k : colon ≡ length (before 0x3A text) = omega arith in
        let b : take colon text ≡ before 0x3A (trimmed p) = ap (λ (i : ℕ). take i text) k ∙ sym (before_starts 0x3A text) ∙ ap (before 0x3A) text_is in
        let h : n ≡ trimmed_span (before 0x3A (trimmed p)) = g ∙ ap trimmed_span b in
        rw (e, h)

    pub name_inside : (n : Span) → n ≡ trimmed_span (take colon text) → (whole.start + n.start ≤ length p) × (whole.start + n.end ≤ length p)
    name_inside n g =
        let i = ap (λ (r : Span). r.start) (name_is n g) in
        let j = ap (λ (r : Span). r.end) (name_is n g) in
        let k = name_fits p in
        (omega arith, omega arith)
