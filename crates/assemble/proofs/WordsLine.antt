-- The words of a number are its line of a text that has them line by line.
use Prim.Native.Nat.{ℕ, zero, suc}
use mathlib.Core.Path.{◌≡◌, refl, ap, ◌∙◌}
use mathlib.Core.List.{List, [], ◌∷◌, ◌++◌}
use mathlib.Core.Bool.{Bool, true, cond}
use lib.ListN.{get_or}
use Rattle.utf8.specs.Utf8.{utf8}
use Rattle.lines.specs.Lines.{lines}
use Rattle.trim.specs.Trim.{trimmed}
use Rattle.ops.specs.Ops.{nth_line, trimmed_line}
use Rattle.assemble.specs.Message.{words, words_of}

-- each on a line of its own
abbrev text : List (List ℕ) → List ℕ
text [] = []
text (w ∷ ws) = w ++ (10 ∷ text ws)

abbrev Kept : List (List ℕ) → Type 0
Kept [] = Unit
Kept (w ∷ ws) = (trimmed w ≡ w) × Kept ws

kept_one : (ws : List (List ℕ)) → Kept ws → (n : ℕ) → trimmed (get_or ws n []) ≡ get_or ws n []
kept_one [] k n = refl
kept_one (w ∷ ws) k zero = k.0
kept_one (w ∷ ws) k (suc n) = kept_one ws k.1 n

kept_line : (ws : List (List ℕ)) → Kept ws → (n : ℕ) → trimmed (nth_line n ws) ≡ nth_line n ws
kept_line ws k zero = refl
kept_line ws k (suc n) = kept_one ws k n

kept : Kept words
kept = (refl, (refl, (refl, (refl, (refl, (refl, (refl, (refl, (refl, (refl, (refl, (refl, (refl, (refl, (refl, (refl, (refl, (refl, (refl, (refl, (refl, (refl, (refl, (refl, (refl, (refl, tt))))))))))))))))))))))))))

pub words_line : (n : ℕ) → trimmed_line (text words) n ≡ words_of n
words_line n =
    let u : utf8 (text words) ≡ true = refl in
    let l : lines (text words) ≡ words = refl in
    ap (λ (b : Bool). cond b (trimmed (nth_line n (lines (text words)))) []) u
    ∙ ap (λ (ls : List (List ℕ)). trimmed (nth_line n ls)) l
    ∙ kept_line words kept n
