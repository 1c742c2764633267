-- Laws of the loop over the body's lines.
use Rattle.std.specs.Prelude.{Some, None}
use Prim.Native.Nat.{ℕ}
use mathlib.Core.Path.{◌≡◌, sym, ap, subst, ◌∙◌}
use mathlib.Core.List.{List}
use lib.ListN.{take}
use Rattle.lines.specs.declared.Line.{Line}
use Rattle.lines.specs.Lines.{lines}
use Rattle.lines.specs.Cursor.{line_at}
use Rattle.lines.proofs.Cursor.{step_line}
use Rattle.scope.specs.declared.state.TableState.{TableState}
use Rattle.scope.specs.Part.{part}
use Rattle.body.specs.Body.{line_read}
use Rattle.scope.specs.Code.Held.{Represented, Within}
use Rattle.scope.proofs.Loops.{Turn, item_within, turn_represents}
use Rattle.body.proofs.BodyLines.{lines_from, line_item}

-- the lines before `at` were read, from the state first on
abbrev pub Lines : List ℕ → ℕ → ℕ → TableState → ℕ → ℕ → TableState → Type 0
Lines s start end first at line a = Turn s line_read (lines_from s end) (lines (part s start end)) start end first at line a

-- what the iterator over the text before `end` gives
module _ (s : List ℕ) (end at : ℕ) {text : List ℕ} (t : text ≡ take end s) where
  pub line_given : {l : Line} → Some l ≡ line_at text at → line_at (take end s) at ≡ Some l
  line_given e = sym (e ∙ ap (λ (u : List ℕ). line_at u at) t)

  pub none_given : None ≡ line_at text at → line_at (take end s) at ≡ None
  none_given e = sym (e ∙ ap (λ (u : List ℕ). line_at u at) t)

module _ {s : List ℕ} {start end : ℕ} (w : Within s start end) (at : ℕ) {l : Line} (e : line_at (take end s) at ≡ Some l) where
  pub line_within : Within s l.text.start l.text.end
  line_within = item_within w (line_item s start end w at l e)

  pub line_represents : {first a : TableState} {n : ℕ} → Lines s start end first at n a → Represented (take start s) first → Represented (take l.text.start s) a
  line_represents {a = a} t g = subst (λ (k : ℕ). Represented (take k s) a) (sym (step_line (take end s) at l e).starts) (turn_represents w t g)
