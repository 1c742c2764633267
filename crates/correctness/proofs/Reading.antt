-- Reading what assembly writes for a tree gives the tree's operations.
use Prim.Native.Nat.{ℕ, ◌*◌, ◌≤◌}
use native.Mathlib.Omega.{arith}
use mathlib.Core.Path.{◌≡◌, refl, ap, ◌∙◌}
use mathlib.Core.List.{List, [], ◌∷◌, ◌++◌, append_assoc, append-nil}
use mathlib.Core.Bool.{true, ◌&&◌}
use lib.Dec.{leb, ltb}
use lib.ListN.{length}
use Rattle.base.specs.Ascii.{ascii}
use Rattle.base.specs.Lists.{all}
use Rattle.base.proofs.Tests.{and_left, and_right, between}
use Rattle.utf8.specs.Utf8.{utf8}
use Rattle.utf8.proofs.Lead.{one_is}
use Rattle.utf8.proofs.Encoding.{append}
use Rattle.lines.specs.Lines.{feed_free}
use Rattle.lines.proofs.Written.{free_cons, free_append}
use Rattle.decimal.specs.Decimal.{digit, decimal}
use Rattle.decimal.proofs.Laws.{decimal-digits}
use Rattle.ops.specs.Ops.{read_text}
use Rattle.base.specs.Outcome.{is}
use Rattle.mnemonic.specs.Written.{written_all, remarks, IsRemark, Each, none, one}
use Rattle.ops.proofs.Written.{reads_written}
use Rattle.grammar.specs.Tree.{Tree, k_of}
use Rattle.contract.specs.Output.{stem_fits, header, operations_of, output}
use Rattle.contract.proofs.Words.{Words}
use Rattle.correctness.proofs.Operations.{operations_fine, k_positive, operations-length, all_writable, all_same}

-- digits are UTF-8 on one line
digits-remark : (s : List ℕ) → all digit s ≡ true → IsRemark s
digits-remark [] e = record { valid = refl; one_line = refl }
digits-remark (a ∷ s) e =
    let b = between 48 57 a (and_left (digit a) (all digit s) e) in
    let r = digits-remark s (and_right (digit a) (all digit s) e) in
    record { valid = one_is a s (omega arith) ∙ r.valid; one_line = free_cons a s (λ e. omega arith) ∙ r.one_line }

stem_remark : (stem : List ℕ) → stem_fits stem ≡ true → IsRemark stem
stem_remark stem e =
    let some = ltb 0 (length stem) in
    let short = leb (length stem) 255 in
    let front = and_left (some && short && utf8 stem) (feed_free stem) e in
    record { valid = and_right (some && short) (utf8 stem) front; one_line = and_right (some && short && utf8 stem) (feed_free stem) e }

-- behind other text of that kind
behind : (x y : List ℕ) → utf8 x ≡ true → feed_free x ≡ true → IsRemark y → IsRemark (x ++ y)
behind x y u f p = record { valid = append x y u ∙ p.valid; one_line = free_append x y f ∙ p.one_line }

-- the header is two remarks
abbrev titles : List ℕ → ℕ → List (List ℕ)
titles stem v = (ascii " contract: " ++ stem) ∷ (ascii " expected: " ++ decimal v) ∷ []

regroup : (a s b d e : List ℕ) → (((a ++ s) ++ 10 ∷ b) ++ d) ++ e ≡ ((a ++ s) ++ 10 ∷ []) ++ (((b ++ d) ++ e) ++ [])
regroup a s b d e = simp (append_assoc, append-nil)

header-remarks : (stem : List ℕ) (v : ℕ) → header stem v ≡ remarks (titles stem v)
header-remarks stem v = regroup (ascii "# contract: ") stem (ascii "# expected: ") (decimal v) (10 ∷ [])

titles_remarks : (stem : List ℕ) (v : ℕ) → stem_fits stem ≡ true → Each IsRemark (titles stem v)
titles_remarks stem v e =
    one (behind (ascii " contract: ") stem refl refl (stem_remark stem e))
    (one (behind (ascii " expected: ") (decimal v) refl refl (digits-remark (decimal v) (decimal-digits v)))
    none)

pub reads_output : (stem : List ℕ) (v : ℕ) (t : Tree) → stem_fits stem ≡ true → Words t → (room : ℕ) → 2 * k_of t ≤ room → read_text (output stem v t) room ≡ is (operations_of t)
unfolding output
reads_output stem v t e h room k =
    let f = operations_fine t h in
    ap (λ (x : List ℕ). read_text (x ++ written_all (operations_of t)) room) (header-remarks stem v)
    ∙ reads_written (titles_remarks stem v e) (all_writable f) (omega (arith, operations-length t, k_positive t)) room (omega (arith, operations-length t))
    ∙ ap is (all_same f)
