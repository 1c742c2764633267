-- What is said, from what the calls ensure.
use Rattle.std.specs.Prelude.{Result, Ok}
use Prim.Native.Nat.{ℕ}
use mathlib.Core.Path.{◌≡◌, sym, ap, ◌∙◌}
use mathlib.Core.List.{List, [], ◌∷◌}
use mathlib.Core.Bool.{Bool, true}
use native.Mathlib.Omega.{arith}
use lib.Dec.{eqb}
use lib.ListN.{length, take, drop, length-append}
use lib.Seq.{take_at}
use Rattle.numbered.specs.declared.Numbered.{Numbered}
use Rattle.numbered.specs.Numbered.{carrying}
use Rattle.scope.specs.declared.refusal.AssembleError.{AssembleError}
use Rattle.contract.specs.Output.{Assembly, assembled}
use Rattle.contract.proofs.Answers.{tells}
use Rattle.assembler.specs.declared.Assembly.{Assembly as Written}
use Rattle.assembler.specs.Answers.{assembly_answer_numbered, Assembles}
use Rattle.assemble.specs.Streams.{Says}

abbrev is_zero : Numbered → Bool
is_zero n = eqb n.number 0

-- a call of assembly
module _ (contract vector stem out after : List ℕ) (r : Result Written AssembleError) (h : Assembles (assembled contract vector stem (length out)) out after r) where
  abbrev a : Assembly
  a = assembled contract vector stem (length out)

  pub says_text : (w : Written) → r ≡ Ok w → Says a (Ok w.written) after
  says_text w e =
      let x : a.answer ≡ carrying 0 (w.written ∷ w.k ∷ w.p ∷ w.value ∷ []) = sym h.answer ∙ ap assembly_answer_numbered e in
      let c = (tells contract vector stem (length out) x).size in
      let zero : eqb a.answer.number 0 ≡ true = ap is_zero x in
      record {
        streams = rw zero (ap (λ (t : List ℕ). record { output = t; error = [] }) (ap (take w.written) h.buffer ∙ take_at a.text (drop (length a.text) out) w.written c));
        within = omega (arith, ap length h.buffer, length-append a.text (drop (length a.text) out), c);
      }
