-- Laws of the piece that starts at a place: where its parameter stands, and what follows it.
use Rattle.std.specs.Prelude.{Option, Some, None}
use Prim.Native.Nat.{ℕ, suc, ◌+◌, ◌-◌, ◌<◌, ◌≤◌}
use mathlib.Core.Path.{◌≡◌, refl, sym, ap, ◌∙◌}
use mathlib.Core.List.{List, [], ◌∷◌}
use native.Mathlib.Omega.{arith}
use lib.ListN.{length, take, drop, length-drop, drop_of_length-le}
use lib.Seq.{drop-drop}
use Rattle.base.proofs.Parts.{take-drop-take}
use Rattle.base.proofs.Tests.{by_leb, by_eqb}
use Rattle.source.specs.Parameters.{front, pieces, name, names, unless_empty, parameters}
use Rattle.source.specs.Code.Cursor.{before, name_span, comma, placed, first_kept, parameter_at}
use Rattle.base.specs.declared.span.Span.{Span}
use Rattle.source.specs.declared.parameters.Parameter.{Parameter}
use Rattle.source.proofs.Cuts.{before-length, before_starts, cut_at, cut_length, pieces-comma, pieces_other, pieces_one, pieces_more}
use Rattle.source.proofs.Names.{name_fits, name_place}

-- the piece that starts at a place
abbrev pub piece_at : List ℕ → ℕ → List ℕ
piece_at s at = before 0x2C (drop at s)

-- it is the last one, or a comma follows it
pub by_comma : {P : Type 0} (s : List ℕ) (at : ℕ) → at ≤ length s
    → (cut_at 0x2C s at ≡ length s → pieces (drop at s) ≡ piece_at s at ∷ [] → P)
    → (cut_at 0x2C s at < length s → pieces (drop at s) ≡ piece_at s at ∷ pieces (drop (cut_at 0x2C s at + 1) s) → P)
    → P
by_comma s at h one more =
    let n = length-drop at s in
    let k = before-length 0x2C (drop at s) in
    let m = length (piece_at s at) in
    let j : at + suc m ≡ cut_at 0x2C s at + 1 = omega arith in
    by_leb (suc m) (length (drop at s))
    (λ l. more (omega arith) (pieces_more (drop at s) l ∙ ap (λ (t : List ℕ). piece_at s at ∷ pieces t) (drop-drop (suc m) at s ∙ ap (λ (i : ℕ). drop i s) j)))
    (λ l. one (omega arith) (pieces_one (drop at s) (omega arith)))

-- a text has at least one piece
comma-pieces : (s : List ℕ) → comma (pieces s) ≡ 1
comma-pieces [] = refl
comma-pieces (a ∷ s) = by_eqb a 0x2C (λ e. ap comma (pieces-comma a s e)) (λ h. ap comma (pieces_other a s h) ∙ go (pieces s))
  where
    go : (ps : List (List ℕ)) → comma (front a ps) ≡ 1
    go [] = refl
    go (p ∷ ps) = refl

-- the parameter of the piece that starts at a place, by the place where the piece is cut off and the name in it
module _ (s : List ℕ) (at : ℕ) (h : at ≤ length s) (stop : ℕ) (e : stop ≡ cut_at 0x2C s at) (n : Span) (f : n ≡ name_span (take (stop - at) (drop at s))) where
  name_is : n ≡ name_span (piece_at s at)
  name_is =
      let k : stop - at ≡ length (piece_at s at) = omega arith in
      f ∙ ap name_span (ap (λ (m : ℕ). take m (drop at s)) k ∙ sym (before_starts 0x2C (drop at s)))

  pub placed_inside : (at + n.start ≤ length s) × (at + n.end ≤ length s)
  placed_inside =
      let g = name_fits (piece_at s at) in
      let b = cut_length 0x2C s at h in
      rw name_is (omega arith, omega arith)

  placed_as : (ps : List (List ℕ)) (next : ℕ) → pieces (drop at s) ≡ piece_at s at ∷ ps → next ≡ stop + comma ps
      → ◌≡◌ {A = Parameter} (record { name = record { start = at + n.start; end = at + n.end }; next = next }) (placed at (pieces (drop at s)))
  placed_as ps next g k = let m : next ≡ at + length (piece_at s at) + comma ps = omega arith in rw (g, name_is, m)

  pub placed_last : length s ≤ stop → ◌≡◌ {A = Parameter} (record { name = record { start = at + n.start; end = at + n.end }; next = stop }) (placed at (pieces (drop at s)))
  placed_last l = by_comma s at h (λ k g. placed_as [] stop g (omega arith)) (λ k g. absurd (omega arith))

  pub placed_more : stop < length s → ◌≡◌ {A = Parameter} (record { name = record { start = at + n.start; end = at + n.end }; next = stop + 1 }) (placed at (pieces (drop at s)))
  placed_more l =
      by_comma s at h
      (λ k g. absurd (omega arith))
      (λ k g. placed_as _ (stop + 1) g (omega (arith, comma-pieces (drop (cut_at 0x2C s at + 1) s))))

-- the answer by a piece's name: its own parameter, or what follows where the name is empty
abbrev pub kept : List ℕ → Parameter → Option Parameter → Option Parameter
kept [] q r = r
kept (a ∷ n) q r = Some q

first_kept_lem : (at : ℕ) (p : List ℕ) (ps : List (List ℕ)) → first_kept at (p ∷ ps) ≡ kept (name p) (placed at (p ∷ ps)) (first_kept (at + length p + 1) ps)
first_kept_lem at p ps = go (name p)
  where
    go : (n : List ℕ) → elim n as (λ _. (Option Parameter)) [ [] ↦ first_kept (at + length p + 1) ps | a ∷ m ↦ Some (placed at (p ∷ ps)) ] ≡ kept n (placed at (p ∷ ps)) (first_kept (at + length p + 1) ps)
    go [] = refl
    go (a ∷ m) = refl

-- at the end of the text and past it there is none
pub past : (s : List ℕ) (at : ℕ) → length s ≤ at → parameter_at s at ≡ None
past s at h = ap (λ (t : List ℕ). first_kept at (pieces t)) (drop_of_length-le s h)

pub none_past : (s : List ℕ) (at : ℕ) → length s ≤ at → parameters (drop at s) ≡ []
none_past s at h = ap parameters (drop_of_length-le s h)

-- where a piece's parameter stands, and what follows it
pub record Stands (s : List ℕ) (at : ℕ) (q : Parameter) : Type 0 where
  pub starts : at ≤ q.name.start
  pub ends : q.name.end ≡ q.name.start + length (name (piece_at s at))
  pub before : q.name.end ≤ q.next
  pub on : at < length s → at < q.next
  pub fits : q.next ≤ length s
  pub is : take (q.name.end - q.name.start) (drop q.name.start s) ≡ name (piece_at s at)
  pub answer : parameter_at s at ≡ kept (name (piece_at s at)) q (parameter_at s q.next)
  pub names : parameters (drop at s) ≡ unless_empty (name (piece_at s at)) (parameters (drop q.next s))

module _ (s : List ℕ) (at : ℕ) (ps : List (List ℕ)) (cut : pieces (drop at s) ≡ piece_at s at ∷ ps) where
  abbrev behind : ℕ
  behind = at + length (piece_at s at) + comma ps

  stood : (at < length s → at < behind) → behind ≤ length s → first_kept (at + length (piece_at s at) + 1) ps ≡ parameter_at s behind → names ps ≡ parameters (drop behind s)
      → Stands s at (placed at (pieces (drop at s)))
  stood further inside follows following =
      let p = piece_at s at in
      let n = name_fits p in
      let m : length (name p) ≡ at + (name_span p).end - (at + (name_span p).start) = omega arith in
      rw cut (record {
        starts = omega arith;
        ends = omega arith;
        before = omega arith;
        on = further;
        fits = inside;
        is = sym (name_place p
            ∙ take-drop-take s p at (length p) (name_span p).start (length (name p)) (at + (name_span p).start) (before_starts 0x2C (drop at s)) (omega arith) refl
            ∙ ap (λ (k : ℕ). take k (drop (at + (name_span p).start) s)) m);
        answer = ap (first_kept at) cut ∙ first_kept_lem at p ps ∙ ap (kept (name p) (placed at (p ∷ ps))) follows;
        names = ap names cut ∙ ap (unless_empty (name p)) following;
      })

pub stands : (s : List ℕ) (at : ℕ) → at ≤ length s → Stands s at (placed at (pieces (drop at s)))
stands s at h =
    by_comma s at h
    (λ e f. stood s at [] f (λ g. omega arith) (omega arith) (sym (past s (at + length (piece_at s at) + 0) (omega arith))) (sym (none_past s (at + length (piece_at s at) + 0) (omega arith))))
    (λ e f. let i = cut_at 0x2C s at + 1 in
    let k : i ≡ at + length (piece_at s at) + comma (pieces (drop i s)) = omega (arith, comma-pieces (drop i s)) in
    stood s at (pieces (drop i s)) f (λ g. omega arith) (omega arith)
    (ap (parameter_at s) k)
    (ap (λ (j : ℕ). parameters (drop j s)) k))
