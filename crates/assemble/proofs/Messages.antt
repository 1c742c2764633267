-- Laws of a message's parts: the words of numbers that are none, and the key or the line.
use Rattle.std.proofs.Common.{◌≡◌, ℕ, zero, suc, ◌<◌, ◌≤◌, ◌^◌, List, ◌++◌, ◌∷◌, [], refl, sym, ap, ◌∙◌, append_assoc, arith, length, get_or, ◌⊎◌, inl, inr}
use Rattle.std.proofs.Math.ListN.{get_or-eq_default}
use Rattle.std.specs.Fmt.{decimal as std_decimal}
use Rattle.base.specs.Ascii.{ascii}
use Rattle.decimal.specs.Decimal.{decimal}
use Rattle.decimal.proofs.Shown.{shown}
use Rattle.numbered.specs.declared.Numbered.{Numbered}
use Rattle.source.specs.declared.function.FunctionError.TheVariants.{NoFunction, NoParameters, UnclosedParameters, NoBody, UnclosedBody}
use Rattle.source.specs.declared.vector.KeyError.TheVariants.{NoKey, NoColon, NoDigit, TooLarge}
use Rattle.expression.specs.declared.ExprError.{ExprError}
use Rattle.expression.specs.declared.ExprError.TheVariants.{InvalidCharacter, UnexpectedEnd, UnbalancedParenthesis, InvalidLiteral, UnknownIdentifier, TooDeep, UnconsumedTokens}
use Rattle.scope.specs.declared.refusal.AssembleError.{AssembleError}
use Rattle.scope.specs.declared.refusal.AssembleError.TheVariants.{Contract, Vector, Function, Key, NoEquals, Expression, TooLong, TooManyBindings, NoReturn, NoValue, NotExpected, BadStem, OutputTooLong}
use Rattle.scope.specs.Numbers.{assemble_error_numbered}
use Rattle.assemble.specs.Message.{words, words_of, key_text, carried_text, message_of, refusal_message, message}

pub no_words : (number : ℕ) → (1 ≤ number → 27 ≤ number) → [] ≡ words_of number
no_words zero h = refl
no_words (suc n) h = let k = h (omega arith) in let e : length words ≡ 26 = refl in sym (get_or-eq_default words [] {n = n} (omega arith))

pub key_number : (place : ℕ) → (place ≡ 0 → ⊥) → decimal place ≡ key_text place
key_number zero n = absurd (n refl)
key_number (suc place) n = refl

-- what each refusal carries, as it is said
abbrev pub carried : AssembleError → List ℕ
carried Contract = []
carried Vector = []
carried (Function e) = []
carried (Key e place) = ascii ", key " ++ key_text place
carried (NoEquals line) = ascii ", line " ++ decimal line
carried (Expression e line) = ascii ", line " ++ decimal line
carried (TooLong line) = ascii ", line " ++ decimal line
carried TooManyBindings = []
carried NoReturn = []
carried NoValue = []
carried NotExpected = []
carried BadStem = []
carried OutputTooLong = []

abbrev Carries : AssembleError → List ℕ → Type 0
Carries why t = let r = assemble_error_numbered why in t ≡ carried_text r.number (get_or r.words 0 0)

carries : (why : AssembleError) → Carries why (carried why)
carries Contract = refl
carries Vector = refl
carries (Function NoFunction) = refl
carries (Function NoParameters) = refl
carries (Function UnclosedParameters) = refl
carries (Function NoBody) = refl
carries (Function UnclosedBody) = refl
carries (Key NoKey place) = refl
carries (Key NoColon place) = refl
carries (Key NoDigit place) = refl
carries (Key TooLarge place) = refl
carries (NoEquals line) = refl
carries (Expression InvalidCharacter line) = refl
carries (Expression UnexpectedEnd line) = refl
carries (Expression UnbalancedParenthesis line) = refl
carries (Expression InvalidLiteral line) = refl
carries (Expression UnknownIdentifier line) = refl
carries (Expression TooDeep line) = refl
carries (Expression UnconsumedTokens line) = refl
carries (TooLong line) = refl
carries TooManyBindings = refl
carries NoReturn = refl
carries NoValue = refl
carries NotExpected = refl
carries BadStem = refl
carries OutputTooLong = refl

pub key_said : (place : ℕ) → place < 2 ^ 64 → (place ≡ 0 → ⊥) → ascii ", key " ++ std_decimal place ≡ ascii ", key " ++ key_text place
key_said place h n = ap (λ (s : List ℕ). ascii ", key " ++ s) (shown place h ∙ key_number place n)

line_carried : {why : AssembleError} {line : ℕ} → (why ≡ NoEquals line) ⊎ (((e : ExprError) × (why ≡ Expression e line)) ⊎ (why ≡ TooLong line)) → carried why ≡ ascii ", line " ++ decimal line
line_carried (inl e) = ap carried e
line_carried (inr (inl e)) = ap carried e.1
line_carried (inr (inr e)) = ap carried e

pub line_said : {why : AssembleError} {line own : ℕ} → line ≡ own → own < 2 ^ 64 → (why ≡ NoEquals own) ⊎ (((e : ExprError) × (why ≡ Expression e own)) ⊎ (why ≡ TooLong own))
    → ascii ", line " ++ std_decimal line ≡ carried why
line_said {own = own} p h e = ap (λ (n : ℕ). ascii ", line " ++ std_decimal n) p ∙ ap (λ (s : List ℕ). ascii ", line " ++ s) (shown own h) ∙ sym (line_carried e)

message_shown : (number value : ℕ) → number < 2 ^ 64 → {w t : List ℕ} → w ≡ words_of number → t ≡ carried_text number value
    → ascii "assemble: " ++ (std_decimal number ++ (ascii ": " ++ (w ++ (t ++ (10 ∷ []))))) ≡ message_of number value
message_shown number value h {w} {t} p q =
    (λ i. ascii "assemble: " ++ (shown number h i ++ (ascii ": " ++ (p i ++ (q i ++ (10 ∷ []))))))
    ∙ joined (ascii "assemble: ") (decimal number) (ascii ": ") (words_of number) (carried_text number value)
  where
    joined : (a d s v x : List ℕ) → a ++ (d ++ (s ++ (v ++ (x ++ (10 ∷ []))))) ≡ a ++ d ++ s ++ v ++ x ++ (10 ∷ [])
    joined a d s v x = simp append_assoc

pub message_said : (why : AssembleError) (n : Numbered) → n ≡ assemble_error_numbered why → n.number < 2 ^ 64 → {w t : List ℕ} → w ≡ words_of n.number → t ≡ carried why
    → ascii "assemble: " ++ (std_decimal n.number ++ (ascii ": " ++ (w ++ (t ++ (10 ∷ []))))) ≡ message why
message_said why n e h p q =
    message_shown n.number (get_or n.words 0 0) h p (q ∙ carries why ∙ ap (λ (r : Numbered). carried_text r.number (get_or r.words 0 0)) (sym e))
    ∙ ap refusal_message e

pub nothing_carried : (why : AssembleError) → ((e : _) (place : ℕ) → why ≡ Key e place → ⊥) → ((line : ℕ) → why ≡ NoEquals line → ⊥)
    → ((e : _) (line : ℕ) → why ≡ Expression e line → ⊥) → ((line : ℕ) → why ≡ TooLong line → ⊥) → [] ≡ carried why
nothing_carried Contract k n x t = refl
nothing_carried Vector k n x t = refl
nothing_carried (Function e) k n x t = refl
nothing_carried (Key e place) k n x t = absurd (k e place refl)
nothing_carried (NoEquals line) k n x t = absurd (n line refl)
nothing_carried (Expression e line) k n x t = absurd (x e line refl)
nothing_carried (TooLong line) k n x t = absurd (t line refl)
nothing_carried TooManyBindings k n x t = refl
nothing_carried NoReturn k n x t = refl
nothing_carried NoValue k n x t = refl
nothing_carried NotExpected k n x t = refl
nothing_carried BadStem k n x t = refl
nothing_carried OutputTooLong k n x t = refl
