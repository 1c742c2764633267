-- Laws of the contract's function, by what each search finds, and where its parts stand.
use Rattle.std.specs.Prelude.{Some, None, Result, Ok, Err}
use Prim.Native.Nat.{ℕ, ◌+◌, ◌<◌, ◌≤◌}
use mathlib.Core.Path.{◌≡◌}
use mathlib.Core.List.{List}
use native.Mathlib.Omega.{arith}
use lib.ListN.{length}
use Rattle.base.specs.Ascii.{ascii}
use Rattle.search.specs.First.{first_at}
use Rattle.source.specs.Function.{function_of}
use Rattle.source.specs.declared.function.Places.{Places}
use Rattle.source.specs.declared.function.FunctionError.{FunctionError}
use Rattle.source.specs.declared.function.FunctionError.TheVariants.{NoFunction, NoParameters, UnclosedParameters, NoBody, UnclosedBody}
use Rattle.source.proofs.Found.{by_found, in_text}

abbrev pub fn : List ℕ
fn = ascii "fn "

-- one search after the other
module _ (s : List ℕ) where
  pub no_function : first_at fn s 0 ≡ None → function_of s ≡ Err NoFunction
  no_function e = rw e

  module _ (name : ℕ) (e1 : first_at fn s 0 ≡ Some name) where
    pub no_parameters : first_at (ascii "(") s (name + 3) ≡ None → function_of s ≡ Err NoParameters
    no_parameters e = rw (e1, e)

    module _ (left : ℕ) (e2 : first_at (ascii "(") s (name + 3) ≡ Some left) where
      pub unclosed_parameters : first_at (ascii ")") s (left + 1) ≡ None → function_of s ≡ Err UnclosedParameters
      unclosed_parameters e = rw (e1, e2, e)

      module _ (right : ℕ) (e3 : first_at (ascii ")") s (left + 1) ≡ Some right) where
        pub no_body : first_at (ascii "{") s (right + 1) ≡ None → function_of s ≡ Err NoBody
        no_body e = rw (e1, e2, e3, e)

        module _ (brace : ℕ) (e4 : first_at (ascii "{") s (right + 1) ≡ Some brace) where
          pub unclosed_body : first_at (ascii "}") s (brace + 1) ≡ None → function_of s ≡ Err UnclosedBody
          unclosed_body e = rw (e1, e2, e3, e4, e)

          pub function_found : (end : ℕ) → first_at (ascii "}") s (brace + 1) ≡ Some end
              → function_of s ≡ Ok (record { params = record { start = left + 1; end = right }; body = record { start = brace + 1; end = end } })
          function_found end e = rw (e1, e2, e3, e4, e)

-- the parameters and the body lie within the text, in this order
pub record Ordered (s : List ℕ) (p : Places) : Type 0 where
  pub params : p.params.start ≤ p.params.end
  pub between : p.params.end < p.body.start
  pub body : p.body.start ≤ p.body.end
  pub fits : p.body.end < length s

never_both : {P : Type 0} {f : Result Places FunctionError} (e : FunctionError) (p : Places) → f ≡ Err e → f ≡ Ok p → P
never_both e p g h = absurd (let z : ◌≡◌ {A = ℕ} 0 1 = cc in omega arith)

same_places : {f : Result Places FunctionError} (p q : Places) → f ≡ Ok p → f ≡ Ok q → p ≡ q
same_places p q g h = cc

pub ordered : (s : List ℕ) (p : Places) → function_of s ≡ Ok p → Ordered s p
ordered s p h =
    by_found (first_at fn s 0) (λ name e1.
    by_found (first_at (ascii "(") s (name + 3)) (λ left e2.
    by_found (first_at (ascii ")") s (left + 1)) (λ right e3.
    by_found (first_at (ascii "{") s (right + 1)) (λ brace e4.
    by_found (first_at (ascii "}") s (brace + 1)) (λ end e5.
    let i3 = in_text (ascii ")") s (left + 1) right e3 in
    let i4 = in_text (ascii "{") s (right + 1) brace e4 in
    let i5 = in_text (ascii "}") s (brace + 1) end e5 in
    let q = same_places _ _ h (function_found s name e1 left e2 right e3 brace e4 end e5) in
    rw q (record { params = omega arith; between = omega arith; body = omega arith; fits = omega arith }))
    (λ n. never_both _ p (unclosed_body s name e1 left e2 right e3 brace e4 n) h))
    (λ n. never_both _ p (no_body s name e1 left e2 right e3 n) h))
    (λ n. never_both _ p (unclosed_parameters s name e1 left e2 n) h))
    (λ n. never_both _ p (no_parameters s name e1 n) h))
    (λ n. never_both _ p (no_function s n) h)
