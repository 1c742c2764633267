-- Blocks of a list: those that a search passes, and the first place in one.
use Rattle.std.specs.Prelude.{Some, None}
use Prim.Native.Nat.{ℕ, zero, suc, ◌+◌, ◌-◌, ◌*◌, ◌/◌, ◌<◌, ◌≤◌}
use mathlib.Core.Path.{◌≡◌, sym, ap, ◌∙◌}
use mathlib.Core.List.{List, [], ◌∷◌}
use mathlib.Core.Bool.{true, false}
use borrow.Author.Tests.{eq-eqb, eqb-true}
use native.Mathlib.Omega.{arith}
use lib.Dec.{eqb}
use lib.ListN.{length, get_or, take, drop, length-drop}
use lib.Seq.{drop-drop, length-take-le}
use Rattle.std.specs.List.{list_any, prefix_len}
use Rattle.std.specs.Simd.{first_chunks}
use Rattle.std.proofs.lemmas.List.Folds.{list_any_at}
use Rattle.base.specs.Code.Skips.{Skips}
use Rattle.base.proofs.Tests.{by_bool, false_true}
use Rattle.search.specs.First.{first_at}
use Rattle.base.specs.Code.Without.{without}
use Rattle.base.specs.Code.Scan.{FirstThat}
use Rattle.search.specs.Code.Scan.{is_at}
use Rattle.search.proofs.Laws.{passed, found_at}

-- the block of n bytes at a place
module _ (b n : ℕ) (s : List ℕ) (at : ℕ) (h : at + n ≤ length s) where
  pub block_passed : list_any (λ a. eqb a b) (take n (drop at s)) ≡ false → Skips (first_at (b ∷ []) s) at (at + n)
  block_passed e =
      let l : length (take n (drop at s)) ≡ n = length-take-le n (drop at s) (omega (arith, length-drop at s)) in
      passed b n s at h n (omega arith) (λ k g q. false_true (sym e ∙ list_any_at (λ a. eqb a b) (take n (drop at s)) k 0 (omega arith) (eq-eqb _ _ q)))

-- the blocks before the first that has b
pub blocks_skipped : (b n : ℕ) (s : List ℕ) (k at : ℕ) → at + k * n ≤ length s → Skips (first_at (b ∷ []) s) at (at + n * prefix_len (without b) (first_chunks n k (drop at s)))
blocks_skipped b n s zero at h = let e : at ≡ at + n * 0 = omega arith in ap (first_at (b ∷ []) s) e
blocks_skipped b n s (suc k) at h =
    by_bool (list_any (λ a. eqb a b) (take n (drop at s)))
    (λ e. let z : at ≡ at + n * 0 = omega arith in rw e (ap (first_at (b ∷ []) s) z))
    (λ e.
    let q = prefix_len (without b) (first_chunks n k (drop (at + n) s)) in
    let z : at + n + n * q ≡ at + n * (1 + q) = omega arith in
    rw (e, drop-drop n at s) (block_passed b n s at (omega arith) e ∙ blocks_skipped b n s k (at + n) (omega arith) ∙ ap (first_at (b ∷ []) s) z))

-- one of the blocks
pub chunk_at : (n k : ℕ) (s : List ℕ) (i : ℕ) (d : List ℕ) → i < k → get_or (first_chunks n k s) i d ≡ take n (drop (n * i) s)
chunk_at n zero s i d h = absurd (omega arith)
chunk_at n (suc k) s zero d h = let z : 0 ≡ n * 0 = omega arith in ap (λ (j : ℕ). take n (drop j s)) z
chunk_at n (suc k) s (suc i) d h =
    let z : n + n * i ≡ n * suc i = omega arith in
    chunk_at n k (drop n s) i d (omega arith) ∙ ap (take n) (drop-drop (n * i) n s ∙ ap (λ (j : ℕ). drop j s) z)

-- the first place in one of the blocks of 64 of what stands from a place on
module _ (b : ℕ) (s : List ℕ) (at : ℕ) (t : List ℕ) (e : t ≡ drop at s) (h : at ≤ length s) (xs : List (List ℕ)) (x : xs ≡ first_chunks 64 (length t / 64) t) (n : length xs ≡ length t / 64) (i : ℕ) (l : i < length xs) where
  within : at + 64 * i + 64 ≤ length s
  within = let r : length t ≡ length s - at = ap length e ∙ length-drop at s in omega arith

  block_is : get_or xs i [] ≡ take 64 (drop (at + 64 * i) s)
  block_is = ap (λ (ys : List (List ℕ)). get_or ys i []) x ∙ chunk_at 64 (length t / 64) t i [] (omega arith) ∙ ap (λ (u : List ℕ). take 64 (drop (64 * i) u)) e ∙ ap (take 64) (drop-drop (64 * i) at s)

  other : (k : ℕ) → is_at b (get_or xs i []) k false → get_or (take 64 (drop (at + 64 * i) s)) k 0 ≡ b → ⊥
  other k f q = false_true (sym f ∙ ap (λ (u : List ℕ). eqb (get_or u k 0) b) block_is ∙ eq-eqb _ _ q)

  pub block_hit : (m : ℕ) → FirstThat (is_at b (get_or xs i [])) 0 64 (Some m) → first_at (b ∷ []) s (at + 64 * i) ≡ Some (at + 64 * i + m)
  block_hit m f =
      let y = eqb-true _ _ (ap (λ (u : List ℕ). eqb (get_or u m 0) b) (sym block_is) ∙ f.2) in
      found_at b 64 s (at + 64 * i) within m f.1 y (λ k q. other k (f.3 k (omega arith) q))

  pub block_miss : FirstThat (is_at b (get_or xs i [])) 0 64 None → Skips (first_at (b ∷ []) s) (at + 64 * i) (at + 64 * (i + 1))
  block_miss f =
      let z : at + 64 * i + 64 ≡ at + 64 * (i + 1) = omega arith in
      passed b 64 s (at + 64 * i) within 64 (omega arith) (λ k q. other k (f k (omega arith) q)) ∙ ap (first_at (b ∷ []) s) z
