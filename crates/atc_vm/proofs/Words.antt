-- What a call gives, told by its number and the eight words.
use Rattle.std.specs.Prelude.{Some, None}
use Prim.Native.Nat.{ℕ, ◌+◌, ◌-◌}
use mathlib.Core.Path.{◌≡◌, sym, ap, ap₂, ◌∙◌}
use mathlib.Core.List.{List, [], ◌∷◌}
use native.Mathlib.Omega.{arith}
use lib.ListN.{length, take, drop}
use Rattle.numbered.specs.declared.Numbered.{Numbered}
use Rattle.numbered.specs.Numbered.{plain, carrying}
use Rattle.lines.specs.declared.Line.{Line}
use Rattle.trim.specs.Trim.{trimmed, leading_blanks}
use Rattle.base.specs.declared.span.Span.{Span}
use Rattle.source.specs.Code.Cursor.{trimmed_span}
use Rattle.ops.specs.Code.Numbered.{line_numbered}
use Rattle.ops.proofs.LineStarts.{numbered_text, numbered_place, numbered_none, none_place}
use Rattle.atc_vm.specs.Calls.{place_numbered}
use Rattle.atc_vm.specs.Words.{Tells}

-- m is the number of x, which is y
pub told : {X : Type 0} (of : X → Numbered) {x y : X} {m : Numbered} {words : List ℕ} {r : ℕ} → x ≡ y → m ≡ of x → Tells m words r → Tells (of y) words r
told of e p t = record {
  number = t.number ∙ ap (λ (n : Numbered). n.number) (p ∙ ap of e);
  words = t.words ∙ ap (λ (n : Numbered). n.words) (p ∙ ap of e);
}

-- the line of a number
pub none_told : (text : List ℕ) (n : ℕ) {m : Numbered} {words : List ℕ} {r : ℕ} → line_numbered text n ≡ None → m ≡ plain 0 → Tells m words r → Tells (place_numbered text n) words r
none_told text n e p t = told (carrying 0) (ap₂ (λ (a b : ℕ). a ∷ b ∷ []) (sym (none_place text n e)) (sym (ap length (numbered_none text n e)))) p t

pub line_told : (text : List ℕ) (n : ℕ) {m : Numbered} {words : List ℕ} {r : ℕ} {l : Line} {p : Span} {a b : ℕ} → line_numbered text n ≡ Some l → p ≡ trimmed_span (take (l.text.end - l.text.start) (drop l.text.start text)) → a ≡ l.text.start + p.start → b ≡ p.end - p.start → m ≡ carrying 0 (a ∷ b ∷ []) → Tells m words r → Tells (place_numbered text n) words r
line_told text n {m} {words} {r} {l} {p} {a} {b} e q f g h t =
    let line = take (l.text.end - l.text.start) (drop l.text.start text) in
    let u : p.start ≡ leading_blanks line = ap (λ (x : Span). x.start) q in
    let v : p.end ≡ leading_blanks line + length (trimmed line) = ap (λ (x : Span). x.end) q in
    let w : b ≡ length (trimmed line) = omega (arith, g, u, v) in
    let y : a ≡ l.text.start + leading_blanks line = omega (arith, f, u) in
    told (carrying 0) (ap₂ (λ (a b : ℕ). a ∷ b ∷ []) (y ∙ sym (numbered_place text n l e)) (w ∙ ap length (numbered_text text n l e))) h t
