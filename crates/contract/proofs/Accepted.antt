-- What is known of a contract and its vector. Where they are accepted: the tree's numbers are below 2^64, its k is at most 32,768, and its value is
-- the vector's `expected`. Where they are refused: the number is one of 1 to 24.
use Rattle.std.specs.Prelude.{Option, Some, None, Result, Ok, Err}
use Prim.Native.Nat.{ℕ, ◌+◌, ◌^◌, ◌<◌, ◌≤◌}
use mathlib.Core.Path.{◌≡◌, refl, ap, subst, ◌∙◌}
use mathlib.Core.List.{List, [], ◌∷◌}
use mathlib.Core.Bool.{Bool, true, false}
use native.Mathlib.Omega.{arith}
use borrow.Author.Tests.{ltb-true, leb-true, eqb-true}
use lib.Dec.{eqb, leb, ltb}
use lib.ListN.{length, drop}
use Rattle.base.specs.Ascii.{ascii}
use Rattle.base.specs.Need.{need}
use Rattle.base.specs.Lists.{take_while}
use Rattle.base.proofs.Tests.{by_bool}
use Rattle.base.proofs.Outcome.{Either, then_either}
use Rattle.search.specs.First.{first_at}
use Rattle.trim.specs.Trim.{trimmed, start_trimmed}
use Rattle.decimal.specs.Decimal.{digit, value}
use Rattle.lines.specs.Lines.{lines}
use Rattle.source.specs.declared.function.Places.{Places}
use Rattle.source.specs.declared.vector.KeyError.{KeyError}
use Rattle.source.specs.declared.vector.KeyError.TheVariants.{NoKey, NoColon, NoDigit, TooLarge}
use Rattle.source.specs.Found.{found_or}
use Rattle.source.specs.declared.function.FunctionError.{FunctionError}
use Rattle.source.specs.declared.function.FunctionError.TheVariants.{NoFunction, NoParameters, UnclosedParameters, NoBody, UnclosedBody}
use Rattle.source.specs.Function.{function_of, function_error_numbered}
use Rattle.source.specs.Parameters.{parameters}
use Rattle.key.specs.Key.{quoted}
use Rattle.source.specs.Vector.{of_digits, vector_number, key_error_numbered}
use Rattle.grammar.specs.Tree.{Tree, num, value_of, k_of}
use Rattle.grammar.specs.Parse.{meaning}
use Rattle.scope.specs.Part.{part}
use Rattle.numbered.specs.declared.Numbered.{Numbered}
use Rattle.numbered.specs.Numbered.{plain}
use Rattle.scope.specs.Scope.{Scope, started, bound, each}
use Rattle.base.specs.Outcome.{Outcome, is, refused, and_then}
use Rattle.body.specs.Statement.{Statement, skipped, no_equals, binds, returns, statement}
use Rattle.body.specs.Body.{tree_or, statement_read, line_read}
use Rattle.scope.specs.Parameters.{keyed, parameter_bound}
use Rattle.contract.specs.Assembled.{readable, body_read, compared, returned, function_read, places_of, assembled_tree}
use Rattle.contract.specs.Code.Concluded.{concluded}
use Rattle.contract.proofs.Words.{Words, WordsIn, meaning-words}
use Rattle.contract.proofs.Refusals.{WrongIn, meaning_wrong}

-- a vector's number is below 2^64
abbrev WordIs : Result ℕ KeyError → Type 0
WordIs (Ok n) = n < 2 ^ 64
WordIs (Err e) = Unit {0}

digits_word : (ds : List ℕ) → WordIs (of_digits ds)
digits_word [] = tt
digits_word (d ∷ ds) = by_bool (ltb (value (d ∷ ds)) (2 ^ 64)) (λ e. rw e (ltb-true (value (d ∷ ds)) (2 ^ 64) e)) (λ e. rw e tt)

found_word : (x : Option ℕ) (y : Result ℕ KeyError) (f : ℕ → Result ℕ KeyError) → WordIs y → ((i : ℕ) → WordIs (f i)) → WordIs (found_or x y f)
found_word (Some i) y f a b = b i
found_word None y f a b = a

vector_word : (s key : List ℕ) → WordIs (vector_number s key)
vector_word s key =
    found_word (first_at (quoted key) s 0) (Err NoKey) _ tt (λ at.
    found_word (first_at (ascii ":") s (at + length (quoted key))) (Err NoColon) _ tt (λ colon.
    digits_word (take_while digit (start_trimmed (drop (colon + 1) s)))))

-- the trees of a state
abbrev pub Fits : Tree → Type 0
Fits t = Words t × (k_of t ≤ 32768)

abbrev LastFits : Option Tree → Type 0
LastFits None = Unit {0}
LastFits (Some t) = Fits t

record Sized (st : Scope) : Type 0 where
  pub env : WordsIn st.env
  pub last : LastFits st.last

abbrev Ranged : Numbered → Type 0
Ranged r = (1 ≤ r.number) × (r.number ≤ 24)

abbrev Leaves : Outcome Numbered Scope → Type 0
Leaves o = Either Ranged Sized o

bound_sized : (st : Scope) (name : List ℕ) (t : Tree) → Sized st → Words t → Leaves (bound st name t)
bound_sized st name t h w = go (ltb (length st.env) 256)
  where
    go : (b : Bool) → Leaves (need b (refused (plain 21)) (is (record { env = record { name = name; tree = t } ∷ st.env; last = st.last })))
    go true = record { env = (w, h.env); last = h.last }
    go false = (omega arith, omega arith)

each_sized : (one : ℕ → Scope → List ℕ → Outcome Numbered Scope) → ((n : ℕ) (st : Scope) (s : List ℕ) → Sized st → Leaves (one n st s))
    → (n : ℕ) (st : Scope) (ss : List (List ℕ)) → Sized st → Leaves (each one n st ss)
unfolding each
each_sized one h n st [] z = z
each_sized one h n st (s ∷ rest) z = then_either Ranged Sized (one n st s) _ (h n st s z) (λ next y. each_sized one h (n + 1) next rest y)

key_ranged : (e : KeyError) → Ranged (key_error_numbered e)
key_ranged NoKey = (omega arith, omega arith)
key_ranged NoColon = (omega arith, omega arith)
key_ranged NoDigit = (omega arith, omega arith)
key_ranged TooLarge = (omega arith, omega arith)

-- the parameters
bound_to_sized : (st : Scope) (name : List ℕ) (place : ℕ) (x : Result ℕ KeyError) → WordIs x → Sized st → Leaves (and_then (keyed x place) (λ n. bound st name (num n)))
bound_to_sized st name place (Ok n) w h = bound_sized st name (num n) h w
bound_to_sized st name place (Err e) w h = key_ranged e

parameters_sized : (vector : List ℕ) (names : List (List ℕ)) → Leaves (each (parameter_bound vector) 1 started names)
parameters_sized vector names =
    each_sized (parameter_bound vector) (λ place st name. bound_to_sized st name place (vector_number vector name) (vector_word vector name)) 1 started names (record { env = tt; last = tt })

-- the lines of the body
tree_sized : (m : Outcome Numbered Tree) (line : ℕ) (follows : Tree → Outcome Numbered Scope) → WrongIn m → ((t : Tree) → m ≡ is t → k_of t ≤ 32768 → Leaves (follows t)) → Leaves (tree_or m line follows)
tree_sized (refused r) line follows w h = (omega (arith, w.0), omega (arith, w.1))
tree_sized (is t) line follows w h = by_bool (leb (k_of t) 32768) (λ e. rw e (h t refl (leb-true (k_of t) 32768 e))) (λ e. rw e (omega arith, omega arith))

performed_sized : (line : ℕ) (st : Scope) (x : Statement) → Sized st → Leaves (statement_read line st x)
performed_sized line st skipped h = h
performed_sized line st no_equals h = (omega arith, omega arith)
performed_sized line st (binds name s) h = tree_sized (meaning st.env s) line (bound st name) (meaning_wrong st.env s) (λ t e k. bound_sized st name t h (meaning-words st.env s t h.env e))
performed_sized line st (returns s) h = tree_sized (meaning st.env s) line _ (meaning_wrong st.env s) (λ t e k. record { env = h.env; last = (meaning-words st.env s t h.env e, k) })

body_sized : (contract vector : List ℕ) (p : Places) → Leaves (body_read contract vector p)
body_sized contract vector p =
    then_either Ranged Sized (each (parameter_bound vector) 1 started (parameters (part contract p.params.start p.params.end))) _ (parameters_sized vector (parameters (part contract p.params.start p.params.end))) (λ st h.
    each_sized line_read (λ n st s. performed_sized n st (statement (trimmed s))) 1 st (lines (part contract p.body.start p.body.end)) h)

-- what is accepted
pub record Accepted (vector : List ℕ) (v : ℕ) (t : Tree) : Type 0 where
  pub fits : Fits t
  pub value : value_of t ≡ Some v
  pub expected : vector_number vector (ascii "expected") ≡ Ok v

pub expected_word : {vector : List ℕ} {v : ℕ} {t : Tree} → Accepted vector v t → v < 2 ^ 64
expected_word {vector} a = subst WordIs a.expected (vector_word vector (ascii "expected"))

abbrev Sound : List ℕ → Outcome Numbered (ℕ × Tree) → Type 0
Sound vector o = Either Ranged (λ r. Accepted vector r.0 r.1) o

module _ (vector : List ℕ) where
  compared_sound : (n : ℕ) (t : Tree) (x : Option ℕ) → Fits t → value_of t ≡ x → vector_number vector (ascii "expected") ≡ Ok n → Sound vector (compared n t x)
  compared_sound n t None f e q = (omega arith, omega arith)
  compared_sound n t (Some i) f e q =
      by_bool (eqb i n)
      (λ b. rw b (record { fits = f; value = e ∙ ap Some (eqb-true i n b); expected = q }))
      (λ b. rw b (omega arith, omega arith))

  returned_sound : (n : ℕ) (x : Option Tree) → LastFits x → vector_number vector (ascii "expected") ≡ Ok n → Sound vector (returned n x)
  returned_sound n None h q = (omega arith, omega arith)
  returned_sound n (Some t) h q = compared_sound n t (value_of t) h refl q

  concluded_sound : (n : ℕ) (o : Outcome Numbered Scope) → Leaves o → vector_number vector (ascii "expected") ≡ Ok n → Sound vector (concluded n o)
  concluded_sound n o h q = then_either Ranged (λ r. Accepted vector r.0 r.1) o _ h (λ st s. returned_sound n st.last s.last q)

  expected_sound : (contract : List ℕ) (p : Places) (x : Result ℕ KeyError) → vector_number vector (ascii "expected") ≡ x → Sound vector (and_then (keyed x 0) (λ expected. concluded expected (body_read contract vector p)))
  expected_sound contract p (Ok n) q = concluded_sound n (body_read contract vector p) (body_sized contract vector p) q
  expected_sound contract p (Err e) q = key_ranged e

  error_ranged : (e : FunctionError) → Ranged (function_error_numbered e)
  error_ranged NoFunction = (omega arith, omega arith)
  error_ranged NoParameters = (omega arith, omega arith)
  error_ranged UnclosedParameters = (omega arith, omega arith)
  error_ranged NoBody = (omega arith, omega arith)
  error_ranged UnclosedBody = (omega arith, omega arith)

  function_sound : (contract : List ℕ) (f : Result Places FunctionError) → Sound vector (and_then (places_of f) (function_read contract vector))
  function_sound contract (Ok p) = expected_sound contract p (vector_number vector (ascii "expected")) refl
  function_sound contract (Err e) = error_ranged e

  tree_sound : (contract : List ℕ) → Sound vector (assembled_tree contract vector)
  unfolding assembled_tree
  tree_sound contract =
      by_bool (readable contract)
      (λ a. by_bool (readable vector)
      (λ b. rw (a, b) (function_sound contract (function_of contract)))
      (λ b. rw (a, b) (omega arith, omega arith)))
      (λ a. rw a (omega arith, omega arith))

  pub accepted_is : (v : ℕ) (t : Tree) (contract : List ℕ) → assembled_tree contract vector ≡ is (v, t) → Accepted vector v t
  accepted_is v t contract e = subst (Sound vector) e (tree_sound contract)

  pub rejected_is : (r : Numbered) (contract : List ℕ) → assembled_tree contract vector ≡ refused r → Ranged r
  rejected_is r contract e = subst (Sound vector) e (tree_sound contract)
