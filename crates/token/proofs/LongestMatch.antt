-- `tokens` gives the tokens of a text, each as long as it can be, exactly where every byte parts tokens or is in one.
use Prim.Native.Nat.{ℕ}
use mathlib.Core.Path.{◌≡◌, refl, sym, ap, subst, ◌∙◌}
use mathlib.Core.List.{List, [], ◌∷◌, ◌++◌, append_assoc, append-nil}
use mathlib.Core.Bool.{true, false, ◌||◌}
use mathlib.Core.Logic.{◌↔◌}
use native.Mathlib.Omega.{arith}
use borrow.Author.Tests.{eqb-true}
use lib.Dec.{eqb}
use lib.ListN.{length, drop, length-append}
use lib.Seq.{drop_at}
use Rattle.base.specs.Lists.{all, take_while}
use Rattle.base.proofs.Tests.{false_true, by_bool, by_or, and_left, and_right, and_both, or_by_left, or_by_right, between}
use Rattle.base.proofs.Lists.{all_weaker, all_append, all_behind, take_while-append}
use Rattle.decimal.specs.Decimal.{digit}
use Rattle.token.specs.Token.{space, name_start, name_part, sign, allowed, paired, extends, scan, tokens}
use Rattle.token.specs.Code.Bytes.{allowed_byte, goes_on}
use Rattle.token.specs.Tokens.{IsToken, digits, name, single, pair, Longest, Tokens, none, parted, token}
use Rattle.token.proofs.Classes.{space-bound, sign_bounds, start-bound, not_so, goes_on_equals, part_allowed, digit_allowed}
use Rattle.token.proofs.Allowed.{no_equals_lem, allowed_other, allowed_equals, allowed_byte_lem, allowed_bytes}
use Rattle.token.proofs.Tokens.{tokens-space, tokens-start, scan_more, scan_ended, extends_run, scan_run, scan_pair, goes_on_digits}

-- what goes on with a name, and with a sign
name_goes : (a b : ℕ) → name_start a ≡ true → goes_on a b ≡ name_part b
name_goes a b e =
    let d = not_so (digit a) (λ q. let x = between 48 57 a q in let y = start-bound a e in omega arith) in
    simp (d, e)

sign_goes : (a b : ℕ) → sign a ≡ true → goes_on a b ≡ false
sign_goes a b e =
    sign_bounds a e
    (λ x y.
    let d = not_so (digit a) (λ q. let z = between 48 57 a q in omega arith) in
    let n = not_so (name_start a) (λ q. let z = start-bound a q in omega arith) in
    simp (d, n))
    (λ x. rw x refl)

-- what is known of a token by its first byte
token_allowed : {w : List ℕ} → IsToken w → (s : List ℕ) → allowed (w ++ s) ≡ allowed s
token_allowed (digits {w} h e) s = allowed_bytes w s (all_weaker digit allowed_byte digit_allowed w e)
token_allowed (name {a} {w} e f) s = allowed_bytes (a ∷ w) s (and_both (allowed_byte a) (all allowed_byte w) (part_allowed a (or_by_left (name_start a) (digit a) e)) (all_weaker name_part allowed_byte part_allowed w f))
token_allowed (single {a} e) s = allowed_byte_lem a s (or_by_right (space a || name_part a) (sign a) e)
token_allowed pair s = refl

token_starts : {a : ℕ} {w : List ℕ} → IsToken (a ∷ w) → space a ≡ false
token_starts {a} {w} (digits h e) = not_so (space a) (λ q. let x = space-bound a q in let y = between 48 57 a (and_left (digit a) (all digit w) e) in omega arith)
token_starts {a} (name e f) = not_so (space a) (λ q. let x = space-bound a q in let y = start-bound a e in omega arith)
token_starts {a} (single e) = not_so (space a) (λ q. let x = space-bound a q in sign_bounds a e (λ y z. omega arith) (λ y. omega arith))
token_starts pair = refl

-- a token but `==` doesn't start with `=`; what follows its first byte goes on with it
token_run : {P : Type 0} {a : ℕ} {w : List ℕ} → IsToken (a ∷ w) → (eqb a 61 ≡ false → all (goes_on a) w ≡ true → P) → (a ∷ w ≡ 61 ∷ 61 ∷ [] → P) → P
token_run {a = a} {w = w} (digits h e) run two =
    let d = and_left (digit a) (all digit w) e in
    run (no_equals_lem a (digit_allowed a d)) (all_weaker digit (goes_on a) (λ b p. goes_on_digits a d b ∙ p) w (and_right (digit a) (all digit w) e))
token_run {a = a} {w = w} (name e f) run two = run (no_equals_lem a (part_allowed a (or_by_left (name_start a) (digit a) e))) (all_weaker name_part (goes_on a) (λ b p. name_goes a b e ∙ p) w f)
token_run {a = a} (single e) run two = run (no_equals_lem a (or_by_right (space a || name_part a) (sign a) e)) refl
token_run pair run two = two refl

-- what goes on with a token by longest match goes on with its first byte
token_extends : {a : ℕ} {w : List ℕ} (b : ℕ) → IsToken (a ∷ w) → extends (a ∷ w) b ≡ goes_on a b
token_extends {a} {w} b t = token_run t (λ n g. extends_run a n w b) (λ e. let p : a ≡ 61 = cc in let q : w ≡ 61 ∷ [] = cc in rw (p, q) refl)

token_goes : {a : ℕ} {w : List ℕ} (b : ℕ) (v : List ℕ) → IsToken (a ∷ w ++ b ∷ v) → IsToken (a ∷ w) → goes_on a b ≡ true
token_goes {a} {w} b v t u =
    token_run t
    (λ n g. and_left (goes_on a b) (all (goes_on a) v) (and_right (all (goes_on a) w) (all (goes_on a) (b ∷ v)) (sym (all_append (goes_on a) w (b ∷ v)) ∙ g)))
    (λ e. absurd (no_part w e u))
  where
    no_single : IsToken (61 ∷ []) → ⊥
    no_single (digits h e) = false_true e
    no_single (name e f) = false_true e
    no_single (single e) = false_true e

    no_part : (x : List ℕ) → a ∷ x ++ b ∷ v ≡ 61 ∷ 61 ∷ [] → IsToken (a ∷ x) → ⊥
    no_part [] e u = let p : a ≡ 61 = cc in no_single (rw p at u)
    no_part (c ∷ x) e u = let l = ap length e in let m = length-append x (b ∷ v) in omega arith

token_more : {a : ℕ} {w : List ℕ} (b : ℕ) → goes_on a b ≡ true → IsToken (a ∷ w) → IsToken (a ∷ w ++ b ∷ [])
token_more {a} {w} b g (digits h e) =
    let d = and_left (digit a) (all digit w) e in
    digits {w = a ∷ w ++ b ∷ []} (omega arith) (all_behind digit (a ∷ w) (b ∷ []) e ∙ (and_both (digit b) true (sym (goes_on_digits a d b) ∙ g) refl))
token_more {a} {w} b g (name e f) = name e (all_behind name_part w (b ∷ []) f ∙ (and_both (name_part b) true (sym (name_goes a b e) ∙ g) refl))
token_more {a} b g (single e) = false_true (sym (sign_goes a b e) ∙ g)
token_more b g pair = false_true g

token_first : (a : ℕ) → space a ≡ false → allowed_byte a ≡ true → IsToken (a ∷ [])
token_first a n e =
    by_or (space a || name_part a) (sign a) e
    (λ p. by_or (space a) (name_part a) p
    (λ q. false_true (sym n ∙ q))
    (λ q. by_or (name_start a) (digit a) q (λ r. name r refl) (λ r. digits {w = a ∷ []} (omega arith) (and_both (digit a) true r refl))))
    (λ p. single p)

-- the list of a text whose tokens are derived
no_empty : IsToken [] → ⊥
no_empty (digits h e) = omega arith

run_none : (a : ℕ) (w s : List ℕ) → IsToken (a ∷ w) → Longest (a ∷ w) s → take_while (goes_on a) s ≡ []
run_none a w [] t l = refl
run_none a w (b ∷ s) t l =
    by_bool (goes_on a b)
    (λ e. absurd (l (b ∷ []) s refl (omega arith) (token_more b e t)))
    (λ e. simp e)

token_list : (w s : List ℕ) → IsToken w → Longest w s → tokens (w ++ s) ≡ w ∷ tokens s
token_list [] s t l = absurd (no_empty t)
token_list (a ∷ w) s t l =
    tokens-start a (w ++ s) (token_starts t)
    ∙ token_run t
    (λ n g.
    let r = take_while-append (goes_on a) w s g ∙ ap (λ (v : List ℕ). w ++ v) (run_none a w s t l) ∙ append-nil w in
    scan_run a n [] (w ++ s)
    ∙ ap (λ (v : List ℕ). (a ∷ v) ∷ tokens (drop (length v) (w ++ s))) r
    ∙ ap (λ (v : List ℕ). (a ∷ w) ∷ tokens v) (drop_at w s (length w) refl))
    (λ e. let p : a ≡ 61 = cc in let q : w ≡ 61 ∷ [] = cc in rw (p, q) (scan_more 61 61 [] s refl ∙ scan_pair s))

derived : {s : List ℕ} {ts : List (List ℕ)} → Tokens s ts → (allowed s ≡ true) × (tokens s ≡ ts)
unfolding scan
derived none = (refl, refl)
derived (parted {a} {s} e h) =
    let more = derived h in
    (allowed_byte_lem a s (or_by_left (space a || name_part a) (sign a) (or_by_left (space a) (name_part a) e)) ∙ more.0, tokens-space a s e ∙ more.1)
derived (token {w} {s} t l h) =
    let more = derived h in
    (token_allowed t s ∙ more.0, token_list w s t l ∙ ap (λ (x : List (List ℕ)). w ∷ x) more.1)

-- the tokens of a text are derivable: from its start, and where a token is read up to w
record Both (s : List ℕ) : Type 0 where
  start : Tokens s (tokens s)
  going : (a : ℕ) (w : List ℕ) → IsToken (a ∷ w) → Tokens (a ∷ w ++ s) (scan (a ∷ w) s)

longest_end : (w : List ℕ) → Longest w []
longest_end w [] u e h t = omega arith
longest_end w (a ∷ v) u e h t = let z = ap length e in omega arith

longest_here : (a b : ℕ) (w s : List ℕ) → IsToken (a ∷ w) → goes_on a b ≡ false → Longest (a ∷ w) (b ∷ s)
longest_here a b w s u n [] r e h t = omega arith
longest_here a b w s u n (c ∷ v) r e h t =
    let p : b ≡ c = cc in
    false_true (sym n ∙ ap (goes_on a) p ∙ token_goes c v t u)

longest_pair : (s : List ℕ) → Longest (61 ∷ 61 ∷ []) s
longest_pair [] = longest_end (61 ∷ 61 ∷ [])
longest_pair (b ∷ s) = longest_here 61 b (61 ∷ []) s pair refl

starting : (a : ℕ) (s : List ℕ) → allowed_byte a ≡ true → Both s → Tokens (a ∷ s) (tokens (a ∷ s))
starting a s e h =
    by_bool (space a)
    (λ p. subst (Tokens (a ∷ s)) (sym (tokens-space a s p)) (parted p h.start))
    (λ p. subst (Tokens (a ∷ s)) (sym (tokens-start a s p)) (h.going a [] (token_first a p e)))

going_on : (b : ℕ) (s : List ℕ) → (eqb b 61 ≡ false → Both s) → Tokens (b ∷ s) (tokens (b ∷ s)) → (a : ℕ) (w : List ℕ) → IsToken (a ∷ w) → Tokens (a ∷ w ++ b ∷ s) (scan (a ∷ w) (b ∷ s))
going_on b s h p a w t =
    by_bool (goes_on a b)
    (λ e.
    let n = not_so (eqb b 61) (λ q. false_true (sym (ap (goes_on a) (eqb-true b 61 q) ∙ goes_on_equals a) ∙ e)) in
    subst (Tokens (a ∷ w ++ b ∷ s)) (sym (scan_more a b w s (token_extends b t ∙ e))) (rw append_assoc at ((h n).going a (w ++ b ∷ []) (token_more b e t))))
    (λ e. subst (Tokens (a ∷ w ++ b ∷ s)) (sym (scan_ended a b w s (token_extends b t ∙ e))) (token t (longest_here a b w s t e) p))

-- of a text, and of one behind a `=`
abbrev Derivable : List ℕ → Type 0
Derivable s = (allowed s ≡ true → Both s) × (paired s ≡ true → Tokens (61 ∷ s) (tokens (61 ∷ s)))

derives : (s : List ℕ) → Derivable s
unfolding scan
derives [] = (λ e. record { start = none; going = λ a w t. token t (longest_end (a ∷ w)) none }, λ e. false_true e)
derives (b ∷ s) =
    let ih = derives s in
    (λ e. record { start = begins ih e; going = going_on b s (behind ih e) (begins ih e) }, λ e. second ih e)
  where
    behind : Derivable s → allowed (b ∷ s) ≡ true → eqb b 61 ≡ false → Both s
    behind ih e n = ih.0 (and_right (allowed_byte b) (allowed s) (sym (allowed_other b s n) ∙ e))

    begins : Derivable s → allowed (b ∷ s) ≡ true → Tokens (b ∷ s) (tokens (b ∷ s))
    begins ih e =
        by_bool (eqb b 61)
        (λ q. subst (λ (x : ℕ). Tokens (x ∷ s) (tokens (x ∷ s))) (sym (eqb-true b 61 q)) (ih.1 (sym (allowed_equals b s q) ∙ e)))
        (λ n. starting b s (and_left (allowed_byte b) (allowed s) (sym (allowed_other b s n) ∙ e)) (behind ih e n))

    second : Derivable s → paired (b ∷ s) ≡ true → Tokens (61 ∷ b ∷ s) (tokens (61 ∷ b ∷ s))
    second ih e =
        let p = eqb-true b 61 (and_left (eqb b 61) (allowed s) e) in
        let h = ih.0 (and_right (eqb b 61) (allowed s) e) in
        subst (λ (x : ℕ). Tokens (61 ∷ x ∷ s) (tokens (61 ∷ x ∷ s))) (sym p) (subst (Tokens (61 ∷ 61 ∷ s)) (sym (scan_more 61 61 [] s refl ∙ scan_pair s)) (token pair (longest_pair s) h.start))

-- a text has the tokens ts exactly where all its bytes part tokens or are in one, and `tokens` gives ts
pub longest_match : (s : List ℕ) (ts : List (List ℕ)) → Tokens s ts ↔ ((allowed s ≡ true) × (tokens s ≡ ts))
longest_match s ts = (derived, λ h. subst (Tokens s) h.1 ((derives s).0 h.0).start)
