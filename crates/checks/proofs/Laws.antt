-- Laws of the verifier's look at operations, one after the other and in blocks.
use Rattle.std.proofs.Common.{◌≡◌, ℕ, ◌+◌, ◌-◌, ◌≤◌, ◌<◌, Bool, true, false, not, ◌&&◌, cond, leb, ltb, List, [], ◌∷◌, length, length-drop, take, drop, zero, suc, ◌⊎◌, inl, inr, refl, sym, arith}
use Rattle.std.specs.Prelude.{Result, Ok, Err}
use Rattle.std.specs.List.{list_any, zip}
use Rattle.std.proofs.lemmas.List.{drop-drop}
use borrow.Author.Tests.{ltb-false, leb-false, le-leb, lt-ltb}
use lib.ListN.{get_or}
use Rattle.base.specs.Need.{need}
use Rattle.base.proofs.Parts.{drop_cons_at}
use Rattle.base.proofs.Tests.{false_true, or_left, or_right}
use Rattle.kinds.specs.Kinds.{target, takes, operation}
use Rattle.checks.specs.declared.VmError.{VmError}
use Rattle.checks.specs.declared.VmError.TheVariants.{UnknownKind, JumpOutOfRange}
use Rattle.checks.specs.Verify.{then_check, target_fits, operation_check, operations_check}
use Rattle.checks.specs.Code.Blocks.{is_bad}

-- the check at a place of the program, and what is left behind it
pub check_at : (n i : ℕ) (ks vs : List ℕ) (x : Result (Unit {0}) VmError) → i < length ks → i < length vs → operation_check n (operation (get_or ks i 0) (get_or vs i 0)) ≡ x
    → operations_check n (drop i ks) (drop i vs) ≡ then_check x (operations_check n (drop (i + 1) ks) (drop (i + 1) vs))
unfolding operations_check
check_at n i ks vs x h k e = rw (drop_cons_at ks i (i + 1) h refl, drop_cons_at vs i (i + 1) k refl, e)

module _ (n : ℕ) where
  -- the first operation passes, or is refused
  pub passes_one : (k v : ℕ) {ks vs ks' vs' : List ℕ} → ks ≡ k ∷ ks' → vs ≡ v ∷ vs' → operation_check n (operation k v) ≡ Ok tt
      → operations_check n ks vs ≡ operations_check n ks' vs'
  unfolding operations_check
  passes_one k v e f p = rw (e, f, p)

  pub stops_one : (k v : ℕ) {ks vs ks' vs' : List ℕ} (x : VmError) → ks ≡ k ∷ ks' → vs ≡ v ∷ vs' → operation_check n (operation k v) ≡ Err x
      → operations_check n ks vs ≡ Err x
  unfolding operations_check
  stops_one k v x e f p = rw (e, f, p)

  -- there is none
  pub passes_none : {ks vs : List ℕ} → (ks ≡ []) ⊎ (vs ≡ []) → operations_check n ks vs ≡ Ok tt
  unfolding operations_check
  passes_none (inl e) = rw e
  passes_none {ks = []} (inr e) = refl
  passes_none {ks = k ∷ ks} (inr e) = rw e

  -- the first m of them pass
  pub passes_block : (m : ℕ) (ks vs : List ℕ) → m ≤ length ks → m ≤ length vs → operations_check n (take m ks) (take m vs) ≡ Ok tt
      → operations_check n ks vs ≡ operations_check n (drop m ks) (drop m vs)
  unfolding operations_check
  passes_block zero ks vs h l e = refl
  passes_block (suc m) [] vs h l e = absurd (omega arith)
  passes_block (suc m) (k ∷ ks) [] h l e = absurd (omega arith)
  passes_block (suc m) (k ∷ ks) (v ∷ vs) h l e = go (operation_check n (operation k v)) (passes_block m ks vs (omega arith) (omega arith)) e
    where
      go : (x : Result (Unit {0}) VmError) → (operations_check n (take m ks) (take m vs) ≡ Ok tt → operations_check n ks vs ≡ operations_check n (drop m ks) (drop m vs))
          → then_check x (operations_check n (take m ks) (take m vs)) ≡ Ok tt → then_check x (operations_check n ks vs) ≡ operations_check n (drop m ks) (drop m vs)
      go (Ok tt) ih f = ih f
      go (Err r) ih f = absurd (let z : ◌≡◌ {A = ℕ} 0 1 = cc in omega arith)

  pub passes_at : (at : ℕ) (ks vs : List ℕ) → at + 16 ≤ length ks → at + 16 ≤ length vs → operations_check n (take (at + 16 - at) (drop at ks)) (take (at + 16 - at) (drop at vs)) ≡ Ok tt
      → operations_check n (drop at ks) (drop at vs) ≡ operations_check n (drop (at + 16) ks) (drop (at + 16) vs)
  passes_at at ks vs h l e =
      let d : at + 16 - at ≡ 16 = omega arith in
      rw (← drop-drop 16 at ks, ← drop-drop 16 at vs) (passes_block 16 (drop at ks) (drop at vs) (simp length-drop (omega arith)) (simp length-drop (omega arith)) (rw d at e))

  -- an operation that the test of a block lets pass
  fine : (k v : ℕ) → is_bad n (operation k v) ≡ false → operation_check n (operation k v) ≡ Ok tt
  fine k v e = go (leb k 15) (target_fits n (operation k v)) e
    where
      go : (a b : Bool) → not (a && b) ≡ false → need {A = Result (Unit {0}) VmError} a (Err UnknownKind) (need b (Err JumpOutOfRange) (Ok (tt {0}))) ≡ Ok (tt {0})
      go true true f = refl
      go true false f = false_true (sym f)
      go false b f = false_true (sym f)

  pub good_pass : (ks vs : List ℕ) → list_any (λ p. is_bad n (operation p.0 p.1)) (zip ks vs) ≡ false → operations_check n ks vs ≡ Ok tt
  unfolding operations_check
  good_pass [] vs e = refl
  good_pass (k ∷ ks) [] e = refl
  good_pass (k ∷ ks) (v ∷ vs) e =
      let bad = is_bad n (operation k v) in
      let more = list_any (λ p. is_bad n (operation p.0 p.1)) (zip ks vs) in
      rw (fine k v (or_left bad more e), good_pass ks vs (or_right bad more e))

  -- known kinds and operands below the program's length
  near : (k v : ℕ) → ltb 15 k ≡ false → leb n v ≡ false → operation_check n (operation k v) ≡ Ok tt
  near k v e f = rw (le-leb k 15 (ltb-false 15 k e), lt-ltb v n (leb-false n v f)) (go (takes target k))
    where
      go : (b : Bool) → need {A = Result (Unit {0}) VmError} (cond b true true) (Err JumpOutOfRange) (Ok (tt {0})) ≡ Ok (tt {0})
      go true = refl
      go false = refl

  pub near_pass : (ks vs : List ℕ) → list_any (ltb 15) ks ≡ false → list_any (leb n) vs ≡ false → operations_check n ks vs ≡ Ok tt
  unfolding operations_check
  near_pass [] vs e f = refl
  near_pass (k ∷ ks) [] e f = refl
  near_pass (k ∷ ks) (v ∷ vs) e f =
      let more = list_any (ltb 15) ks in
      let far = list_any (leb n) vs in
      rw (near k v (or_left (ltb 15 k) more e) (or_left (leb n v) far f), near_pass ks vs (or_right (ltb 15 k) more e) (or_right (leb n v) far f))
