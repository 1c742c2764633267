-- From the passes to the whole text.
use Rattle.std.specs.Prelude.{Result, Ok, Err}
use Prim.Native.Nat.{ℕ, min}
use mathlib.Core.Path.{◌≡◌, refl, sym, ap, subst, ◌∙◌}
use mathlib.Core.List.{List, [], ◌∷◌}
use mathlib.Core.Bool.{true, false}
use native.Mathlib.Omega.{arith}
use lib.ListN.{length}
use Rattle.base.specs.Overwrite.{overwrite}
use Rattle.base.specs.Outcome.{is, refused, and_then}
use Rattle.utf8.specs.Utf8.{utf8}
use Rattle.kinds.specs.Kinds.{Operation}
use Rattle.operation.specs.Line.{from_str}
use Rattle.ops.specs.Ops.{Reading, read_text, answer_of, ops_of, kinds_of, operands_of, ReadsOps, not_empty}
use Rattle.ops.specs.Numbers.{parsed_ops_numbered}
use Rattle.ops.specs.Code.Passes.{read_into, NoneRefused, PassOver}
use Rattle.operation.specs.declared.OpsError.{OpsError}
use Rattle.operation.specs.declared.OpsError.TheVariants.{NotUtf8}

-- what an answer says of the reading that it is of
read_is : (x : Reading) (n : ℕ) → answer_of (and_then x not_empty) ≡ Ok n → (os : List Operation) × (x ≡ is os) × (and_then x not_empty ≡ x)
read_is (is []) n e = absurd (let z : ◌≡◌ {A = ℕ} 0 1 = cc in omega arith)
read_is (is (o ∷ os)) n e = (o ∷ os, refl, refl)
read_is (refused x) n e = absurd (let z : ◌≡◌ {A = ℕ} 0 1 = cc in omega arith)

refused_is : (x : Reading) (e : OpsError) → answer_of x ≡ Err e → x ≡ refused e
refused_is (is os) e p = absurd (let z : ◌≡◌ {A = ℕ} 0 1 = cc in omega arith)
refused_is (refused x) e p = let z : x ≡ e = cc in ap refused z

module _ (text kinds operands : List ℕ) where
  parsed : (x : Reading) (r : Result ℕ OpsError) (kinds_after operands_after : List ℕ) → read_text text (min (length kinds) (length operands)) ≡ x → r ≡ answer_of x
      → kinds_after ≡ overwrite 0 (kinds_of (ops_of x)) kinds → operands_after ≡ overwrite 0 (operands_of (ops_of x)) operands → ReadsOps text kinds operands kinds_after operands_after r
  parsed x r kinds_after operands_after e p q s =
      let a : r ≡ answer_of (read_text text (min (length kinds) (length operands))) = rw e p in
      record { answer = a; says = ap parsed_ops_numbered a; kinds_written = rw e q; operands_written = rw e s }

  pub not_utf8 : utf8 text ≡ false → ReadsOps text kinds operands kinds operands (Err NotUtf8)
  not_utf8 u = parsed (refused NotUtf8) (Err NotUtf8) kinds operands (simp u) refl refl refl

  -- after the first pass, which writes nothing
  module _ (u : utf8 text ≡ true) (k o : List ℕ) (r : Result ℕ OpsError) (f : PassOver from_str text kinds operands k o false r) where
    whole : read_text text (min (length kinds) (length operands)) ≡ and_then (read_into from_str text kinds operands) not_empty
    whole = simp u

    pub is_refused_lem : (x : OpsError) → r ≡ Err x → ReadsOps text kinds operands k o r
    is_refused_lem x p =
        parsed (refused x) r k o (whole ∙ refused_is (and_then (read_into from_str text kinds operands) not_empty) x (sym f.answer ∙ p)) p (f.kept_kinds refl) (f.kept_operands refl)

    module _ (n : ℕ) (p : r ≡ Ok n) where
      good : (os : List Operation) × (read_into from_str text kinds operands ≡ is os) × (and_then (read_into from_str text kinds operands) not_empty ≡ read_into from_str text kinds operands)
      good = read_is (read_into from_str text kinds operands) n (sym f.answer ∙ p)

      pub is_good : NoneRefused from_str text k o
      is_good = rw (f.kept_kinds refl, f.kept_operands refl) (record { read = good.0; is = good.1 })

      -- and after the second
      pub is_read : (k' o' : List ℕ) (r' : Result ℕ OpsError) → PassOver from_str text k o k' o' true r' → ReadsOps text kinds operands k' o' r'
      is_read k' o' r' g =
          let w : PassOver from_str text kinds operands k' o' true r' =
          subst (λ (x : List ℕ). PassOver from_str text x operands k' o' true r') (f.kept_kinds refl) (subst (λ (y : List ℕ). PassOver from_str text k y k' o' true r') (f.kept_operands refl) g) in
          parsed (read_into from_str text kinds operands) r' k' o' (whole ∙ good.2) (w.answer ∙ ap answer_of good.2) (w.filled refl).in_kinds (w.filled refl).in_operands
