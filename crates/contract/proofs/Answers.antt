-- What assembly answers. 0 is document 01's accepted, and tells of the tree, its counts and the text; every other number is a refusal's, with no text.
use Prim.Native.Nat.{ℕ, ◌≤◌}
use mathlib.Core.Path.{◌≡◌, refl, sym, ap, ◌∙◌}
use mathlib.Core.List.{List, [], ◌∷◌}
use mathlib.Core.Bool.{true, false}
use native.Mathlib.Omega.{arith}
use lib.Dec.{eqb, leb}
use lib.ListN.{length}
use Rattle.base.proofs.Tests.{by_bool, false_true}
use Rattle.numbered.specs.declared.Numbered.{Numbered}
use Rattle.numbered.specs.Numbered.{plain, carrying}
use Rattle.base.specs.Outcome.{Outcome, is, refused}
use Rattle.numbered.proofs.Told.{word_told}
use Rattle.source.specs.declared.function.FunctionError.TheVariants.{NoFunction, NoParameters, UnclosedParameters, NoBody, UnclosedBody}
use Rattle.source.specs.declared.vector.KeyError.TheVariants.{NoKey, NoColon, NoDigit, TooLarge}
use Rattle.expression.specs.declared.ExprError.TheVariants.{InvalidCharacter, UnexpectedEnd, UnbalancedParenthesis, InvalidLiteral, UnknownIdentifier, TooDeep, UnconsumedTokens}
use Rattle.grammar.specs.Tree.{Tree, k_of, p_of}
use Rattle.scope.specs.declared.refusal.AssembleError.{AssembleError}
use Rattle.scope.specs.declared.refusal.AssembleError.TheVariants.{Contract, Vector, Function, Key, NoEquals, Expression, TooLong, TooManyBindings, NoReturn, NoValue, NotExpected, BadStem, OutputTooLong}
use Rattle.scope.specs.Numbers.{assemble_error_numbered}
use Rattle.contract.specs.Assembled.{assembled_tree}
use Rattle.contract.specs.Output.{Assembly, stem_fits, output, nothing, written_into, with_stem, assembled}
use Rattle.contract.proofs.Accepted.{rejected_is}

-- no refusal has the number 0
pub never_0 : (why : AssembleError) → eqb (assemble_error_numbered why).number 0 ≡ false
never_0 Contract = refl
never_0 Vector = refl
never_0 (Function NoFunction) = refl
never_0 (Function NoParameters) = refl
never_0 (Function UnclosedParameters) = refl
never_0 (Function NoBody) = refl
never_0 (Function UnclosedBody) = refl
never_0 (Key NoKey place) = refl
never_0 (Key NoColon place) = refl
never_0 (Key NoDigit place) = refl
never_0 (Key TooLarge place) = refl
never_0 (NoEquals line) = refl
never_0 (Expression InvalidCharacter line) = refl
never_0 (Expression UnexpectedEnd line) = refl
never_0 (Expression UnbalancedParenthesis line) = refl
never_0 (Expression InvalidLiteral line) = refl
never_0 (Expression UnknownIdentifier line) = refl
never_0 (Expression TooDeep line) = refl
never_0 (Expression UnconsumedTokens line) = refl
never_0 (TooLong line) = refl
never_0 TooManyBindings = refl
never_0 NoReturn = refl
never_0 NoValue = refl
never_0 NotExpected = refl
never_0 BadStem = refl
never_0 OutputTooLong = refl

module _ (contract vector stem : List ℕ) where
  -- what 0 with the values n, k, p and v tells, where the text is written
  pub record Tells (text : List ℕ) (n k p v : ℕ) : Type 0 where
    pub tree : Tree
    pub assembles : assembled_tree contract vector ≡ is (v, tree)
    pub k_counts : k ≡ k_of tree
    pub p_counts : p ≡ p_of tree
    pub stem_fits_lem : stem_fits stem ≡ true
    pub text_is : text ≡ output stem v tree
    pub size : length text ≡ n

  module _ (room : ℕ) where
    abbrev whole : Assembly
    whole = assembled contract vector stem room

    -- an assembly is refused with one of 1 to 25, or all is well but the room
    pub by_answer : (P : Assembly → Type 0)
        → ((r : Numbered) → 1 ≤ r.number → r.number ≤ 25 → P (nothing r))
        → ((v : ℕ) (t : Tree) → assembled_tree contract vector ≡ is (v, t) → stem_fits stem ≡ true → P (written_into (output stem v t) v t room))
        → P whole
    unfolding assembled
    by_answer P f g = go (assembled_tree contract vector) refl
      where
        go : (x : Outcome Numbered (ℕ × Tree)) → assembled_tree contract vector ≡ x → P (with_stem x stem room)
        go (refused r) e = let h = rejected_is vector r contract e in f r h.0 (omega (arith, h.1))
        go (is (v, t)) e = by_bool (stem_fits stem) (λ s. rw s (g v t e s)) (λ s. rw s (f (plain 25) (omega arith) (omega arith)))

    module _ {n k p v : ℕ} where
      no_zero : {A : Type 0} (r : Numbered) → 1 ≤ r.number → r ≡ carrying 0 (n ∷ k ∷ p ∷ v ∷ []) → A
      no_zero r h e = absurd (omega (arith, ap (λ (x : Numbered). x.number) e))

      pub tells : whole.answer ≡ carrying 0 (n ∷ k ∷ p ∷ v ∷ []) → Tells whole.text n k p v
      tells =
          by_answer (λ (a : Assembly). a.answer ≡ carrying 0 (n ∷ k ∷ p ∷ v ∷ []) → Tells a.text n k p v)
          (λ r h g e. no_zero r h e)
          (λ u t e f. by_bool (leb (length (output stem u t)) room)
          (λ b. rw b (λ q.
          let w : u ≡ v = word_told 3 q in
          record {
            tree = t;
            assembles = e ∙ ap (λ (i : ℕ). is (i, t)) w;
            k_counts = sym (word_told 1 q);
            p_counts = sym (word_told 2 q);
            stem_fits_lem = f;
            text_is = ap (λ (i : ℕ). output stem i t) w;
            size = word_told 0 q;
          }))
          (λ b. rw b (λ q. no_zero (plain 26) (omega arith) q)))

    pub no_text : eqb whole.answer.number 0 ≡ false → whole.text ≡ []
    no_text =
        by_answer (λ (a : Assembly). eqb a.answer.number 0 ≡ false → a.text ≡ [])
        (λ r h g e. refl)
        (λ v t e f. by_bool (leb (length (output stem v t)) room) (λ b. rw b (λ q. false_true (sym q))) (λ b. rw b (λ q. refl)))
