-- The token at a place is the next of the list.
use Prim.Native.Nat.{ℕ, suc, ◌+◌, ◌-◌, ◌<◌, ◌≤◌}
use mathlib.Core.Path.{◌≡◌, refl, sym, ap, subst, ◌∙◌}
use mathlib.Core.List.{List, [], ◌∷◌, ◌++◌, append-nil}
use mathlib.Core.Bool.{true, false, or-false}
use native.Mathlib.Omega.{arith}
use borrow.Author.Tests.{eq-eqb, ne_eqb}
use lib.Dec.{eqb}
use lib.ListN.{length, get_or, take, drop, length-drop, drop_of_length-le}
use lib.Seq.{drop-drop, get_or-drop, append_snoc, length-take-le}
use Rattle.base.specs.Lists.{take_while}
use Rattle.base.proofs.Tests.{or_left, or_right, by_bool, by_leb, by_eqb, below, between}
use Rattle.base.proofs.Parts.{drop_cons_at}
use Rattle.base.proofs.Lists.{take_while_same, length-take_while, take-take_while, take_while_last, take_while_stops, passes_inside}
use Rattle.decimal.specs.Decimal.{digit}
use Rattle.base.specs.declared.span.Span.{Span}
use Rattle.std.specs.Prelude.{Some, None}
use Rattle.std.proofs.lemmas.Option.{none-some, same_Some}
use Rattle.token.specs.Token.{space, name_start, name_part, extends, scan, tokens}
use Rattle.token.specs.Code.Bytes.{goes_on, second, rest}
use Rattle.token.specs.Code.Places.{first, first_span, start_at, end_at, token_at}
use Rattle.token.proofs.Classes.{goes_no_space, part_allowed, digit_allowed}
use Rattle.token.proofs.Allowed.{no_equals_lem}

pub tokens-space : (a : ℕ) (s : List ℕ) → space a ≡ true → tokens (a ∷ s) ≡ tokens s
unfolding scan
tokens-space a s e = rw (e, scan)

pub tokens-start : (a : ℕ) (s : List ℕ) → space a ≡ false → tokens (a ∷ s) ≡ scan (a ∷ []) s
unfolding scan
tokens-start a s e = rw (e, scan)

pub scan_more : (a b : ℕ) (v s : List ℕ) → extends (a ∷ v) b ≡ true → scan (a ∷ v) (b ∷ s) ≡ scan (a ∷ v ++ b ∷ []) s
unfolding scan
scan_more a b v s e = rw (e, scan)

pub scan_ended : (a b : ℕ) (v s : List ℕ) → extends (a ∷ v) b ≡ false → scan (a ∷ v) (b ∷ s) ≡ (a ∷ v) ∷ tokens (b ∷ s)
unfolding scan
scan_ended a b v s e = rw (e, scan)

-- a token that doesn't start with `=`, read up to v, goes on as long as its start lets it
module _ (a : ℕ) (n : eqb a 61 ≡ false) where
  pub extends_run : (v : List ℕ) (b : ℕ) → extends (a ∷ v) b ≡ goes_on a b
  extends_run v b = simp (n, or-false)

  pub scan_run : (v s : List ℕ) → scan (a ∷ v) s ≡ (a ∷ v ++ take_while (goes_on a) s) ∷ tokens (drop (length (take_while (goes_on a) s)) s)
  unfolding scan
  scan_run v [] = ap (λ (w : List ℕ). (a ∷ w) ∷ []) (sym (append-nil v))
  scan_run v (b ∷ s) =
      let more = scan_run (v ++ b ∷ []) s in
      by_bool (goes_on a b)
      (λ e. scan_more a b v s (extends_run v b ∙ e) ∙ more ∙ simp (e, append_snoc))
      (λ e. scan_ended a b v s (extends_run v b ∙ e) ∙ simp e (ap (λ (w : List ℕ). (a ∷ w) ∷ tokens (b ∷ s)) (sym (append-nil v))))

-- `==` ends with its second byte
pub scan_pair : (s : List ℕ) → scan (61 ∷ 61 ∷ []) s ≡ (61 ∷ 61 ∷ []) ∷ tokens s
unfolding scan
scan_pair [] = refl
scan_pair (b ∷ s) = scan_ended 61 b (61 ∷ []) s refl

scan_equals : (s : List ℕ) → scan (61 ∷ []) s ≡ (61 ∷ second s) ∷ tokens (drop (length (second s)) s)
unfolding scan
scan_equals [] = refl
scan_equals (b ∷ s) =
    by_eqb b 61
    (λ e. rw e (scan_more 61 61 [] s refl ∙ scan_pair s))
    (λ e. let n = ne_eqb b 61 e in scan_ended 61 b [] s (simp n) ∙ simp n)

pub scan_token : (a : ℕ) (s : List ℕ) → scan (a ∷ []) s ≡ (a ∷ rest a s) ∷ tokens (drop (length (rest a s)) s)
scan_token a s =
    by_eqb a 61
    (λ e. rw e (scan_equals s))
    (λ e. let n = ne_eqb a 61 e in simp n (scan_run a n [] s))

-- the rest of a token, by its first byte
pub rest_run : (a : ℕ) (s : List ℕ) → name_part a ≡ true → rest a s ≡ take_while (goes_on a) s
rest_run a s e = let n = no_equals_lem a (part_allowed a e) in simp n

pub rest_none : (a : ℕ) (s : List ℕ) → name_part a ≡ false → eqb a 61 ≡ false → rest a s ≡ []
rest_none a s e n = simp n (none s)
  where
    none : (t : List ℕ) → take_while (goes_on a) t ≡ []
    none [] = refl
    none (b ∷ t) = let d = or_right (name_start a) (digit a) e in let m = or_left (name_start a) (digit a) e in simp (d, m)

-- what a token has behind its first byte stands in the text, and ends with no space
rest_laws : (a : ℕ) (s : List ℕ) → (length (rest a s) ≤ length s) × (take (length (rest a s)) s ≡ rest a s)
rest_laws a s =
    by_bool (eqb a 61)
    (λ e. simp e (second_laws s))
    (λ e. simp e (length-take_while (goes_on a) s, take-take_while (goes_on a) s))
  where
    second_laws : (t : List ℕ) → (length (second t) ≤ length t) × (take (length (second t)) t ≡ second t)
    second_laws [] = (omega arith, refl)
    second_laws (b ∷ t) = by_bool (eqb b 61) (λ e. simp e (omega arith, refl)) (λ e. simp e (omega arith, refl))

-- whether `==` goes on at an offset, past whose end a byte reads 0
pub second_there : (s : List ℕ) (i : ℕ) → eqb (get_or s i 0) 61 ≡ true → length (second (drop i s)) ≡ 1
second_there s i e = rw (drop_cons_at s i (i + 1) (passes_inside (λ (a : ℕ). eqb a 61) refl s i e) refl) (simp e)

pub second-not : (s : List ℕ) (i : ℕ) → eqb (get_or s i 0) 61 ≡ false → length (second (drop i s)) ≡ 0
second-not s i e =
    by_leb (length s) i
    (λ h. ap (λ (t : List ℕ). length (second t)) (drop_of_length-le s h))
    (λ h. rw (drop_cons_at s i (i + 1) h refl) (simp e))

rest_last : (a : ℕ) (s : List ℕ) (n : ℕ) → length (rest a s) ≡ suc n → space (get_or s n 0) ≡ false
rest_last a s n h =
    by_bool (eqb a 61)
    (λ e. second_last s n (simp e at h))
    (λ e. goes_no_space a (get_or s n 0) (take_while_last (goes_on a) s n (simp e at h)))
  where
    second_last : (t : List ℕ) (m : ℕ) → length (second t) ≡ suc m → space (get_or t m 0) ≡ false
    second_last [] m h = absurd (omega arith)
    second_last (b ∷ t) m h =
        by_eqb b 61
        (λ e. let z : suc m ≡ 1 = sym h ∙ simp (eq-eqb b 61 e) in let q : m ≡ 0 = omega arith in rw (q, e) refl)
        (λ e. absurd (let z : suc m ≡ 0 = sym h ∙ simp (ne_eqb b 61 e) in omega arith))

tokens_skip : (s : List ℕ) → tokens s ≡ tokens (drop (length (take_while space s)) s)
tokens_skip [] = refl
tokens_skip (a ∷ s) =
    let more = tokens_skip s in
    by_bool (space a) (λ e. tokens-space a s e ∙ more ∙ simp e) (λ e. simp e)

-- the bytes of a token that starts at a place
abbrev pub token_from : List ℕ → ℕ → List ℕ
token_from s i = get_or s i 0 ∷ rest (get_or s i 0) (drop (i + 1) s)

-- a token is left from a place on: it stands from start up to end, and its last byte is no space
pub record Next (s : List ℕ) (at start end : ℕ) : Type 0 where
  pub after : at ≤ start
  pub some : start < end
  pub inside : end ≤ length s
  pub bytes : take (end - start) (drop start s) ≡ token_from s start
  pub last : space (get_or s (end - 1) 0) ≡ false
  pub list : tokens (drop at s) ≡ token_from s start ∷ tokens (drop end s)

-- from the first byte that is no space on
module _ (s : List ℕ) (at i : ℕ) (e : i ≡ start_at s at) where
  skipped : tokens (drop at s) ≡ tokens (drop i s)
  skipped = tokens_skip (drop at s) ∙ ap tokens (drop-drop (length (take_while space (drop at s))) at s) ∙ ap (λ (j : ℕ). tokens (drop j s)) (sym e)

  no_space : space (get_or s i 0) ≡ false
  no_space = ap (λ (j : ℕ). space (get_or s j 0)) e ∙ ap space (sym (get_or-drop at s (length (take_while space (drop at s))) 0)) ∙ take_while_stops space refl (drop at s)

  pub none_left : length s ≤ i → tokens (drop at s) ≡ []
  unfolding scan
  none_left h = skipped ∙ ap tokens (drop_of_length-le s h)

  no_space_last : (end : ℕ) → end ≡ i + 1 + length (rest (get_or s i 0) (drop (i + 1) s)) → space (get_or s (end - 1) 0) ≡ false
  no_space_last end q =
      let a = get_or s i 0 in
      let n = length (rest a (drop (i + 1) s)) in
      by_leb n 0
      (λ h. let p : end - 1 ≡ i = omega arith in rw p no_space)
      (λ h.
      let p : i + 1 + (n - 1) ≡ end - 1 = omega arith in
      let b : get_or (drop (i + 1) s) (n - 1) 0 ≡ get_or s (end - 1) 0 = get_or-drop (i + 1) s (n - 1) 0 ∙ ap (λ (j : ℕ). get_or s j 0) p in
      rw (← b) (rest_last a (drop (i + 1) s) (n - 1) (omega arith)))

  pub next_at : i < length s → (end : ℕ) → end ≡ i + 1 + length (rest (get_or s i 0) (drop (i + 1) s)) → Next s at i end
  next_at h end q =
      let a = get_or s i 0 in
      let n = drop_cons_at s i (i + 1) h refl in
      let r = rest_laws a (drop (i + 1) s) in
      let l = length-drop (i + 1) s in
      let m : end - i ≡ suc (length (rest a (drop (i + 1) s))) = omega arith in
      record {
        after = omega arith;
        some = omega arith;
        inside = omega (arith, r.0);
        bytes = rw (n, m) (ap (λ (w : List ℕ). a ∷ w) r.1);
        last = no_space_last end q;
        list =
            skipped
            ∙ ap tokens n
            ∙ tokens-start a (drop (i + 1) s) no_space
            ∙ scan_token a (drop (i + 1) s)
            ∙ ap (λ (t : List ℕ). token_from s i ∷ tokens t) (drop-drop (length (rest a (drop (i + 1) s))) (i + 1) s)
            ∙ ap (λ (j : ℕ). token_from s i ∷ tokens (drop j s)) (sym q);
      }

-- the token that the code gives
pub is_token : (s : List ℕ) (at : ℕ) {start end : ℕ} → start ≡ start_at s at → Next s at start end → Some (record { start = start; end = end }) ≡ token_at s at
is_token s at {start} {end} e n =
    let b = ap length n.bytes in
    let d = length-take-le (end - start) (drop start s) (let q = length-drop start s in omega (arith, n.inside, n.some)) in
    let p : end ≡ start + length (token_from s start) = omega (arith, n.some) in
    rw (n.list, ← e) (ap (λ (j : ℕ). Some (record { start = start; end = j })) p)

pub is_none : (s : List ℕ) (at : ℕ) {start : ℕ} → start ≡ start_at s at → length s ≤ start → None ≡ token_at s at
is_none s at {start} e h = sym (ap (first_span (start_at s at)) (none_left s at start e h))

-- what the token at a place says of the list
pub token_none : (s : List ℕ) (at : ℕ) → token_at s at ≡ None → (tokens (drop at s) ≡ []) × (length s ≤ start_at s at)
token_none s at e =
    by_leb (length s) (start_at s at)
    (λ h. (none_left s at (start_at s at) refl h, h))
    (λ h. absurd (none-some _ (sym e ∙ sym (is_token s at refl (next_at s at (start_at s at) refl h _ refl)))))

pub token_next : (s : List ℕ) (at : ℕ) {t : Span} → token_at s at ≡ Some t → Next s at t.start t.end
token_next s at {t} e =
    by_leb (length s) (start_at s at)
    (λ h. absurd (none-some _ (is_none s at refl h ∙ e)))
    (λ h.
    let n = next_at s at (start_at s at) refl h _ refl in
    let q = same_Some _ _ (is_token s at refl n ∙ e) in
    subst (λ (x : Span). Next s at x.start x.end) q n)

-- the token at a place is its first byte and the rest, and ends where the definition says
module _ (s : List ℕ) (at : ℕ) {t : Span} (e : token_at s at ≡ Some t) where
  token_same : Some (record { start = start_at s at; end = start_at s at + length (token_from s t.start) }) ≡ Some t
  token_same = sym (ap (first_span (start_at s at)) (token_next s at e).list) ∙ e

  pub token_length : start_at s at + length (token_from s t.start) ≡ t.end
  token_length = ap (λ (x : Span). x.end) (same_Some _ _ token_same)

  pub token_end : end_at s at ≡ t.end
  token_end = ap (λ (ts : List (List ℕ)). start_at s at + length (first ts)) (token_next s at e).list ∙ token_length

-- a token that starts with a digit is the digits from there on
module _ (a : ℕ) (e : digit a ≡ true) where
  no_name : name_start a ≡ false
  no_name = let b = between 48 57 a e in simp (below 65 90 a (omega arith), below 97 122 a (omega arith), ne_eqb a 95 (λ q. omega arith))

  pub goes_on_digits : (b : ℕ) → goes_on a b ≡ digit b
  goes_on_digits b = simp (e, no_name, or-false)

  pub digit_token : (s : List ℕ) → a ∷ rest a s ≡ take_while digit (a ∷ s)
  digit_token s = let n = no_equals_lem a (digit_allowed a e) in simp (e, n) (ap (λ (w : List ℕ). a ∷ w) (take_while_same (goes_on a) digit goes_on_digits s))
