-- The documentation of `str::lines`, its examples and its corners.
use Rattle.std.specs.Prelude.{Some, None}
use mathlib.Core.Path.{◌≡◌, refl}
use mathlib.Core.List.{[], ◌∷◌}
use Rattle.lines.specs.Lines.{lines}
use Rattle.lines.specs.Cursor.{line_at}

-- "foo\r\nbar\n\nbaz\r"
foo : lines (102 ∷ 111 ∷ 111 ∷ 13 ∷ 10 ∷ 98 ∷ 97 ∷ 114 ∷ 10 ∷ 10 ∷ 98 ∷ 97 ∷ 122 ∷ 13 ∷ []) ≡ (102 ∷ 111 ∷ 111 ∷ []) ∷ (98 ∷ 97 ∷ 114 ∷ []) ∷ [] ∷ (98 ∷ 97 ∷ 122 ∷ 13 ∷ []) ∷ []
foo = refl

-- "foo\nbar\n\r\nbaz": the last line ending is optional
optional : lines (102 ∷ 111 ∷ 111 ∷ 10 ∷ 98 ∷ 97 ∷ 114 ∷ 10 ∷ 13 ∷ 10 ∷ 98 ∷ 97 ∷ 122 ∷ []) ≡ (102 ∷ 111 ∷ 111 ∷ []) ∷ (98 ∷ 97 ∷ 114 ∷ []) ∷ [] ∷ (98 ∷ 97 ∷ 122 ∷ []) ∷ []
optional = refl

empty : lines [] ≡ []
empty = refl

-- "\r\r\n" and "\ra": of two carriage returns one belongs to the line ending, and one alone ends nothing
two_returns : lines (13 ∷ 13 ∷ 10 ∷ []) ≡ (13 ∷ []) ∷ []
two_returns = refl

alone : lines (13 ∷ 97 ∷ []) ≡ (13 ∷ 97 ∷ []) ∷ []
alone = refl

-- "a\r\nb" from its start, from its second line and from its end
first : line_at (97 ∷ 13 ∷ 10 ∷ 98 ∷ []) 0 ≡ Some (record { text = record { start = 0; end = 1 }; next = 3 })
first = refl

second : line_at (97 ∷ 13 ∷ 10 ∷ 98 ∷ []) 3 ≡ Some (record { text = record { start = 3; end = 4 }; next = 4 })
second = refl

done : line_at (97 ∷ 13 ∷ 10 ∷ 98 ∷ []) 4 ≡ None
done = refl
