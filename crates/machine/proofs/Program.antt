-- The kinds past the last one named, and the program that two buffers hold.
use Rattle.std.proofs.Common.{◌≡◌, ℕ, zero, suc, ◌<◌, ◌≤◌, List, [], ◌∷◌, length, get_or, refl, ap, subst, arith}
use native.Mathlib.Decide.{ℕ_discrete}
use lib.ListN.{get_or-eq_default}
use Rattle.kinds.specs.Kinds.{operation}
use Rattle.machine.specs.Machine.{effects, Effect, ends, effect_of, halt, decode}

abbrev pub halt_of : List ℕ → List ℕ → Effect
halt_of s m = ends

-- a kind above 14 has the effect of Halt
pub effect_high : (c room k v : ℕ) → 15 ≤ k → effect_of c room (operation k v) ≡ halt_of
effect_high c room k v h = go (ℕ_discrete 15 k)
  where
    go : Dec (15 ≡ k) → effect_of c room (operation k v) ≡ halt_of
    go (yes e) = subst (λ (j : ℕ). effect_of c room (operation j v) ≡ halt_of) e refl
    go (no ne) = get_or-eq_default (effects c room v) halt_of {n = k} (omega arith)

-- the decoded program, place by place
pub decode-length : (ks vs : List ℕ) → length ks ≡ length vs → length (decode ks vs) ≡ length ks
unfolding decode
decode-length [] vs e = refl
decode-length (k ∷ ks) [] e = absurd (omega arith)
decode-length (k ∷ ks) (v ∷ vs) e = ap suc (decode-length ks vs (omega arith))

pub decode_at : (ks vs : List ℕ) (i : ℕ) → length ks ≡ length vs → i < length ks → get_or (decode ks vs) i halt ≡ operation (get_or ks i 0) (get_or vs i 0)
unfolding decode
decode_at [] vs i e h = absurd (omega arith)
decode_at (k ∷ ks) [] i e h = absurd (omega arith)
decode_at (k ∷ ks) (v ∷ vs) zero e h = refl
decode_at (k ∷ ks) (v ∷ vs) (suc i) e h = decode_at ks vs i (omega arith) (omega arith)
