-- The place behind which no token is left and before which a byte of a token stands is the end of the last token.
use Prim.Native.Nat.{ℕ, zero, suc, ◌<◌}
use mathlib.Core.Path.{◌≡◌, refl, sym, ap, ◌∙◌}
use mathlib.Core.List.{List, [], ◌∷◌}
use mathlib.Core.Bool.{false}
use native.Mathlib.Omega.{arith}
use borrow.Author.Tests.{ne_eqb}
use lib.ListN.{length, get_or, drop}
use Rattle.base.proofs.Tests.{by_bool}
use Rattle.token.specs.Token.{space, tokens}
use Rattle.token.specs.Code.Places.{last_end}
use Rattle.token.proofs.Tokens.{tokens-space, tokens-start, scan_token}

none_last : (s : List ℕ) → tokens s ≡ [] → last_end s ≡ 0
none_last [] e = refl
none_last (a ∷ s) e =
    by_bool (space a)
    (λ p. let n = none_last s (sym (tokens-space a s p) ∙ e) in simp (n, p))
    (λ p. absurd (let l = ap length (sym (scan_token a s) ∙ sym (tokens-start a s p) ∙ e) in omega arith))

pub last_end_lem : (s : List ℕ) (n : ℕ) → n < length s → space (get_or s n 0) ≡ false → tokens (drop (suc n) s) ≡ [] → last_end s ≡ suc n
last_end_lem [] n h p e = absurd (omega arith)
last_end_lem (a ∷ s) zero h p e = let m = none_last s e in simp (m, p)
last_end_lem (a ∷ s) (suc n) h p e =
    let m = last_end_lem s n (omega arith) p e in
    simp (m, ne_eqb (suc n) 0 (λ (x : suc n ≡ 0). omega arith))
