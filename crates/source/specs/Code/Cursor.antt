-- Where the parameters stand in their text, one after the other.
use Rattle.std.specs.Prelude.{Option, Some, None, MatchOption}
use Rattle.std.specs.Prelude.{ℕ, ◌+◌, ◌-◌, ◌<◌, ◌≤◌, ◌≡◌, List, [], ◌∷◌, length, take, drop}
use Rattle.base.specs.Code.Cursor.{Visit, piece, no_piece}
use Rattle.base.specs.Lists.{is_not, take_while}
use Rattle.trim.specs.Trim.{trimmed, leading_blanks}
use Rattle.source.specs.Parameters.{pieces, name, parameters}
use Rattle.base.specs.declared.span.Span.{Span}
use Rattle.source.specs.declared.parameters.Parameter.{Parameter}

-- the text before the first b, or all of it where there is none
abbrev pub before : ℕ → List ℕ → List ℕ
before b s = take_while (is_not b) s

-- where the trimmed text stands in a text
abbrev pub trimmed_span : List ℕ → Span
trimmed_span s = record { start = leading_blanks s; end = leading_blanks s + length (trimmed s) }

-- where the name stands in a piece
abbrev pub name_span : List ℕ → Span
name_span p =
    let cut = trimmed_span (before 0x3A (trimmed p)) in
    record { start = leading_blanks p + cut.start; end = leading_blanks p + cut.end }

-- the comma behind a piece that others follow
abbrev pub comma : List (List ℕ) → ℕ
comma [] = 0
comma (p ∷ ps) = 1

-- the parameter of the first piece, which starts at a place; a text always has one
abbrev pub placed : ℕ → List (List ℕ) → Parameter
placed at [] = record { name = record { start = at; end = at }; next = at }
placed at (p ∷ ps) = record { name = record { start = at + (name_span p).start; end = at + (name_span p).end }; next = at + length p + comma ps }

-- the first parameter that is kept of pieces, the first of which starts at a place
abbrev pub first_kept : ℕ → List (List ℕ) → Option Parameter
first_kept at [] = None
first_kept at (p ∷ ps) = elim (name p) [ [] ↦ first_kept (at + length p + 1) ps | a ∷ n ↦ Some (placed at (p ∷ ps)) ]

-- the next parameter from a place on
abbrev pub parameter_at : List ℕ → ℕ → Option Parameter
parameter_at s at = first_kept at (pieces (drop at s))

-- one step over a text: the name of the next parameter, and the place behind it
abbrev pub GivesName : List ℕ → ℕ → Option Span → List ℕ → ℕ → Type 0
GivesName s at r t on = (t ≡ s) × MatchOption r ((parameter_at s at ≡ None) × (on ≡ at)) (λ name. parameter_at s at ≡ Some (record { name = name; next = on }))

-- what a cursor visits at a place: the next parameter, and then the place behind it
abbrev pub visit_of_parameter : List ℕ → Option Parameter → Visit (List ℕ)
visit_of_parameter s (Some p) = piece (take (p.name.end - p.name.start) (drop p.name.start s)) p.next
visit_of_parameter s None = no_piece

abbrev pub visit_parameter : List ℕ → ℕ → Visit (List ℕ)
visit_parameter s at = visit_of_parameter s (parameter_at s at)

-- the parameter at a place lies within the text, and the parameters from that place on are it and those from the next place on
pub record IsParameter (s : List ℕ) (at : ℕ) (p : Parameter) : Type 0 where
  pub starts : at ≤ p.name.start
  pub filled : p.name.start < p.name.end
  pub before : p.name.end ≤ p.next
  pub on : at < p.next
  pub fits : p.next ≤ length s
  pub is : parameters (drop at s) ≡ take (p.name.end - p.name.start) (drop p.name.start s) ∷ parameters (drop p.next s)
