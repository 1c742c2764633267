-- `mnemonic::word::stands_at` meets its contract: by whether a word's bytes are left.
use Prim.Native.Nat.{ℕ, ◌+◌, ◌-◌, ◌<◌}
use mathlib.Core.Path.{◌≡◌, sym, ap, ◌∙◌}
use mathlib.Core.Bool.{true}
use native.Mathlib.Omega.{arith}
use lib.Dec.{eqb}
use lib.ListN.{length, take, drop, length-drop}
use Rattle.std.specs.List.{fold, zip}
use Rattle.search.proofs.Prefix.{no_room}
use Rattle.mnemonic.specs.Code.Agree.{and_same}
use Rattle.mnemonic.proofs.Words.{agreed}
use Rattle.mnemonic.proofs.word.stands_at.Goals as goal
use Rattle.mnemonic.proofs.word.stands_at.Goals.{then-t-at-via-then-t-at, then-t-at-via-else-t-at+then-t-at-2}

pub returns-then-t-at : goal.returns-then-t-at
returns-then-t-at g c =
    let a = c.args in
    let less : length a.t.now < a.at + length a.word.now =
    elim c.then-t-at.branch [ then-t-at-via-then-t-at w ↦ omega arith | then-t-at-via-else-t-at+then-t-at-2 w ↦ omega arith ] in
    ap (λ (n : ℕ). eqb n 0) (sym c.told-word) ∙ sym (no_room a.word.now a.t.now a.at less)

pub returns : goal.returns
returns g c =
    let a = c.args in
    let n : a.at + g.row.N - a.at ≡ length a.word.now = omega arith in
    c.agree.ensures
    ∙ ap (λ (m : ℕ). fold and_same true (zip (take m (drop a.at a.t.now)) a.word.now)) n
    ∙ agreed a.word.now (drop a.at a.t.now) true (simp length-drop (omega arith))
