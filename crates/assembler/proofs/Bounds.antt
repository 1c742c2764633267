-- How long an output can be, and which numbers an assembly gives.
use Prim.Native.Nat.{ℕ, ◌≤◌}
use mathlib.Core.Path.{◌≡◌}
use mathlib.Core.List.{List}
use mathlib.Core.Bool.{true}
use native.Mathlib.Omega.{arith}
use borrow.Author.Tests.{le-leb}
use lib.Dec.{leb}
use lib.ListN.{length}
use Rattle.base.proofs.Tests.{by_bool}
use Rattle.decimal.proofs.Laws.{length_word}
use Rattle.grammar.specs.Tree.{Tree}
use Rattle.contract.specs.Assembled.{assembled_tree}
use Rattle.contract.specs.Output.{Assembly, stem_fits, output, assembled}
use Rattle.base.specs.Outcome.{is}
use Rattle.contract.proofs.Words.{words_short}
use Rattle.contract.proofs.Accepted.{accepted_is, expected_word}
use Rattle.contract.proofs.Answers.{by_answer}
use Rattle.assembler.proofs.Stems.{stem_short}
use Rattle.assembler.proofs.Outputs.{header-length, output-length}

module _ (contract vector stem : List ℕ) where
  pub output_short : (v : ℕ) (t : Tree) → assembled_tree contract vector ≡ is (v, t) → stem_fits stem ≡ true → length (output stem v t) ≤ 983440
  output_short v t e f =
      let a = accepted_is vector v t contract e in
      omega (arith, output-length stem v t, header-length stem v, words_short t a.fits.0, a.fits.1, length_word v (expected_word a), stem_short stem f)

  module _ (room : ℕ) where
    -- the numbers are 0 to 26
    pub refuses : (assembled contract vector stem room).answer.number ≤ 26
    refuses =
        by_answer contract vector stem room (λ (a : Assembly). a.answer.number ≤ 26)
        (λ r l h. omega arith)
        (λ v t e f. by_bool (leb (length (output stem v t)) room) (λ b. rw b (omega arith)) (λ b. rw b (omega arith)))

    -- so much room is enough for every output
    pub never_26 : 983440 ≤ room → (assembled contract vector stem room).answer.number ≤ 25
    never_26 enough =
        by_answer contract vector stem room (λ (a : Assembly). a.answer.number ≤ 25)
        (λ r l h. h)
        (λ v t e f. rw (le-leb (length (output stem v t)) room (omega (arith, output_short v t e f))) (omega arith))
