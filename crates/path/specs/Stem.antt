-- The stem of the file that a Unix path names, as Rust documents Path::file_name and Path::file_stem. Where Rust has none, it is empty.
use Rattle.std.specs.Prelude.{ℕ, List, [], ◌∷◌, ◌++◌, Bool, true, false, cond, ◌&&◌, ◌||◌, eqb}

-- a path cut at slashes; p is what stands in front, up to the slash before
abbrev pub parts_from : List ℕ → List ℕ → List (List ℕ)
parts_from p [] = p ∷ []
parts_from p (a ∷ s) = elim (eqb a 0x2F) [ true ↦ p ∷ parts_from [] s | false ↦ parts_from (p ++ a ∷ []) s ]

-- an empty part and `.` are ignored
abbrev pub ignored : List ℕ → Bool
ignored [] = true
ignored (a ∷ []) = eqb a 0x2E
ignored (a ∷ b ∷ s) = false

-- the last of the parts that is not ignored, or c where each is
abbrev pub last_of : List ℕ → List (List ℕ) → List ℕ
last_of c [] = c
last_of c (p ∷ ps) = last_of (cond (ignored p) c p) ps

-- a path's last component
abbrev pub component : List ℕ → List ℕ
component s = last_of [] (parts_from [] s)

-- `..`
abbrev pub parent : List ℕ → Bool
parent [] = false
parent (a ∷ []) = false
parent (a ∷ b ∷ []) = eqb a 0x2E && eqb b 0x2E
parent (a ∷ b ∷ c ∷ s) = false

-- a path that ends in `..` names no file
abbrev pub file_name : List ℕ → List ℕ
file_name s = cond (parent (component s)) [] (component s)

abbrev pub has : ℕ → List ℕ → Bool
has b [] = false
has b (a ∷ s) = eqb a b || has b s

-- the text before the last b, or all of it where there is none
abbrev pub before_last : ℕ → List ℕ → List ℕ
before_last b [] = []
before_last b (a ∷ s) = elim (has b s) [ true ↦ a ∷ before_last b s | false ↦ elim (eqb a b) [ true ↦ [] | false ↦ a ∷ s ] ]

-- a name cut before its last dot; a dot that is its first byte stays
abbrev pub stem_of : List ℕ → List ℕ
stem_of [] = []
stem_of (a ∷ s) = a ∷ before_last 0x2E s

abbrev pub file_stem : List ℕ → List ℕ
file_stem s = stem_of (file_name s)
