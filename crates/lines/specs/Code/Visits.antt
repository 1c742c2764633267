-- The lines that a cursor visits.
use Rattle.std.specs.Prelude.{Option, Some, None, MatchOption, unwrap_or}
use Rattle.std.specs.Prelude.{ℕ, ◌-◌, ◌<◌, ◌≤◌, ◌≡◌, List, [], ◌∷◌, length, get_or, take, drop}
use Rattle.base.specs.Code.Cursor.{Visit, piece, no_piece}
use Rattle.search.specs.First.{first_at}
use Rattle.lines.specs.Lines.{lines}
use Rattle.lines.specs.declared.Line.{Line}
use Rattle.lines.specs.Cursor.{line_at}

-- the offset of the first line feed at or after an offset, or the text's end where there is none
abbrev pub feed_from : List ℕ → ℕ → ℕ
feed_from s at = unwrap_or (first_at (10 ∷ []) s at) (length s)

-- the first of lines
abbrev pub head_of : List (List ℕ) → List ℕ
head_of ls = get_or ls 0 []

-- what a cursor visits at an offset: the line there, and then the next place
abbrev pub visit_of_line : List ℕ → Option Line → Visit (List ℕ)
visit_of_line s (Some l) = piece (take (l.text.end - l.text.start) (drop l.text.start s)) l.next
visit_of_line s None = no_piece

abbrev pub visit_line : List ℕ → ℕ → Visit (List ℕ)
visit_line s at = visit_of_line s (line_at s at)

-- the line at an offset lies within the text, and the lines starting at that offset are it and the lines starting at the next offset
pub record IsLine (s : List ℕ) (at : ℕ) (l : Line) : Type 0 where
  pub starts : l.text.start ≡ at
  pub ends : at ≤ l.text.end
  pub on : at < l.next
  pub before : l.text.end ≤ l.next
  pub fits : l.next ≤ length s
  pub is : lines (drop at s) ≡ take (l.text.end - at) (drop at s) ∷ lines (drop l.next s)

-- one step over a text: the line at an offset, and behind it the offset of the next one
abbrev pub GivesLine : List ℕ → ℕ → Option Line → List ℕ → ℕ → Type 0
GivesLine s at r t on = (r ≡ line_at s at) × ((t ≡ s) × MatchOption r (on ≡ at) (λ l. on ≡ l.next))
