-- Laws of the cursor: what an answer says of the parameters, and that they are visited in order.
use Rattle.std.specs.Prelude.{Option, Some, None}
use Prim.Native.Nat.{ℕ, zero, suc, ◌+◌, ◌-◌, ◌<◌, ◌≤◌}
use mathlib.Core.Path.{◌≡◌, refl, sym, ap, ◌∙◌}
use mathlib.Core.List.{List, [], ◌∷◌}
use native.Mathlib.Omega.{arith}
use lib.ListN.{length, take, drop}
use Rattle.base.specs.Code.Cursor.{visited, IsVisit}
use Rattle.base.proofs.Tests.{by_leb}
use Rattle.base.proofs.Cursor as cursor
use Rattle.base.proofs.Parts.{length_zero}
use Rattle.source.specs.Parameters.{pieces, name, unless_empty, parameters}
use Rattle.source.specs.Code.Cursor.{placed, parameter_at, visit_of_parameter, visit_parameter, IsParameter}
use Rattle.source.specs.declared.parameters.Parameter.{Parameter}
use Rattle.source.proofs.Pieces.{piece_at, kept, past, none_past, Stands, stands}

-- by whether the name is empty
module _ {s : List ℕ} {at : ℕ} {q : Parameter} (w : Stands s at q) where
  pub here : q.name.start < q.name.end → parameter_at s at ≡ Some q
  here h = w.answer ∙ go (name (piece_at s at)) (let e = w.ends in omega arith)
    where
      go : (n : List ℕ) → 0 < length n → kept n q (parameter_at s q.next) ≡ Some q
      go [] k = absurd (omega arith)
      go (a ∷ n) k = refl

  no_name : q.name.end ≤ q.name.start → name (piece_at s at) ≡ []
  no_name h = length_zero (name (piece_at s at)) (let e = w.ends in omega arith)

  pub skipped : q.name.end ≤ q.name.start → parameter_at s at ≡ parameter_at s q.next
  skipped h = w.answer ∙ ap (λ (n : List ℕ). kept n q (parameter_at s q.next)) (no_name h)

  listed : q.name.start < q.name.end → parameters (drop at s) ≡ take (q.name.end - q.name.start) (drop q.name.start s) ∷ parameters (drop q.next s)
  listed h = w.names ∙ go (name (piece_at s at)) (let e = w.ends in omega arith) ∙ ap (λ (n : List ℕ). n ∷ parameters (drop q.next s)) (sym w.is)
    where
      go : (n : List ℕ) → 0 < length n → unless_empty n (parameters (drop q.next s)) ≡ n ∷ parameters (drop q.next s)
      go [] k = absurd (omega arith)
      go (a ∷ n) k = refl

  unlisted : q.name.end ≤ q.name.start → parameters (drop at s) ≡ parameters (drop q.next s)
  unlisted h = w.names ∙ ap (λ (n : List ℕ). unless_empty n (parameters (drop q.next s))) (no_name h)

-- what an answer says of the parameters from a place on
abbrev Says : List ℕ → ℕ → Option Parameter → Type 0
Says s at (Some q) = IsParameter s at q
Says s at None = parameters (drop at s) ≡ []

-- it says the same of an earlier place, where only empty names stand between
earlier : (s : List ℕ) (i j : ℕ) → i ≤ j → parameters (drop i s) ≡ parameters (drop j s) → (r : Option Parameter) → Says s j r → Says s i r
earlier s i j h e (Some q) a =
    record { starts = let k = a.starts in omega arith; filled = a.filled; before = a.before; on = let k = a.on in omega arith; fits = a.fits; is = e ∙ a.is }
earlier s i j h e None a = e ∙ a

says : (n : ℕ) (s : List ℕ) (at : ℕ) → length s ≤ n + at → Says s at (parameter_at s at)
says zero s at h = rw (past s at (omega arith)) (none_past s at (omega arith))
says (suc n) s at h =
    by_leb (length s) at
    (λ g. rw (past s at g) (none_past s at g))
    (λ g. let q = placed at (pieces (drop at s)) in
    let w = stands s at (omega arith) in
    let o = w.on g in
    by_leb q.name.end q.name.start
    (λ k. rw (skipped w k) (earlier s at q.next (omega arith) (unlisted w k) (parameter_at s q.next) (says n s q.next (omega arith))))
    (λ k. rw (here w k) (record { starts = w.starts; filled = k; before = w.before; on = o; fits = w.fits; is = listed w k })))

answered : (s : List ℕ) (at : ℕ) (r : Option Parameter) → parameter_at s at ≡ r → Says s at r
answered s at r e = rw e at (says (length s) s at (omega arith))

pub next_is : (s : List ℕ) (at : ℕ) (q : Parameter) → parameter_at s at ≡ Some q → IsParameter s at q
next_is s at q e = answered s at (Some q) e

pub next_done : (s : List ℕ) (at : ℕ) → parameter_at s at ≡ None → parameters (drop at s) ≡ []
next_done s at e = answered s at None e

-- a cursor visits the parameters in order
is_visit : (s : List ℕ) (at : ℕ) → IsVisit (λ i. parameters (drop i s)) at (visit_parameter s at)
is_visit s at = go (parameter_at s at) (says (length s) s at (omega arith))
  where
    go : (r : Option Parameter) → Says s at r → IsVisit (λ i. parameters (drop i s)) at (visit_of_parameter s r)
    go (Some p) a = (a.on, a.is)
    go None a = a

pub in_order : (s : List ℕ) → visited (visit_parameter s) (length s) 0 ≡ parameters s
in_order s = cursor.in_order (visit_parameter s) (λ i. parameters (drop i s)) (length s) (is_visit s) (none_past s)
