-- What is read from its start on is the operation that stands there.
use Rattle.std.specs.Prelude.{Option, Some, None}
use Rattle.plain_op.specs.declared.PlainOp.{PlainOp}
use Prim.Native.Nat.{ℕ, suc, ◌+◌, ◌<◌, ◌≤◌}
use mathlib.Core.Path.{◌≡◌, subst, refl, sym, ap, ◌∙◌}
use mathlib.Core.List.{List, [], ◌∷◌, ◌++◌, append_assoc, append-nil}
use mathlib.Core.Bool.{Bool, true, false, cond}
use native.Mathlib.Omega.{arith}
use lib.ListN.{length, get_or, drop, length-append, length-drop}
use lib.Seq.{drop-drop}
use Rattle.base.specs.Lists.{all, take_while}
use Rattle.base.proofs.Tests.{and_left, between}
use Rattle.base.proofs.Lists.{take_while_all, all_take_while, length-take_while, take_while-drop}
use Rattle.search.specs.First.{prefix_of}
use Rattle.search.proofs.Prefix.{split}
use Rattle.decimal.specs.Decimal.{digit, value, number_of}
use Rattle.decimal.specs.Code.Digits.{capped}
use Rattle.decimal.proofs.FromStr.{not_signed, read_all}
use Rattle.kinds.specs.Kinds.{kind_of}
use Rattle.mnemonic.specs.Kinds.{follows, line_with}
use Rattle.plain_op.specs.Code.Plain.{OperationAt, PlainRead, WordAt}

-- what stands behind a text at a place
behind : (w text : List ℕ) (at end : ℕ) → prefix_of w (drop at text) ≡ true → end ≡ at + length w → drop at text ≡ w ++ drop end text
behind w text at end e p =
    split w (drop at text) e ∙ ap (λ (s : List ℕ). w ++ s) (drop-drop (length w) at text ∙ ap (λ (i : ℕ). drop i text) (sym p))

-- a word alone
pub alone_read : (text : List ℕ) (at k end : ℕ) (b : Bool) (r : Option PlainOp) → r ≡ cond b (Some (record { kind = k; operand = 0; end = end })) None
    → k < 16 → follows (kind_of k).operand ≡ false → b ≡ prefix_of (kind_of k).word (drop at text) → end ≡ at + length (kind_of k).word → PlainRead text at r
alone_read text at k end b r q h f e p = subst (PlainRead text at) (sym q) (go b e)
  where
    go : (b : Bool) → b ≡ prefix_of (kind_of k).word (drop at text) → PlainRead text at (cond b (Some (record { kind = k; operand = 0; end = end })) None)
    go false e = tt
    go true e =
        let w = (kind_of k).word in
        let l : line_with k (48 ∷ []) ≡ w = ap (λ (b : Bool). w ++ cond b (32 ∷ 48 ∷ []) []) f ∙ append-nil w in
        record {
          digits = 48 ∷ [];
          number = 0;
          below = h;
          all = refl;
          some = omega arith;
          is = refl;
          operand = sym (ap (λ (b : Bool). cond b 0 0) f);
          stands = behind w text at end (sym e) p ∙ ap (λ (s : List ℕ). s ++ drop end text) (sym l);
          place = p ∙ ap (λ (s : List ℕ). at + length s) (sym l);
        }

number_of_lem : (d : List ℕ) (v : ℕ) → all digit d ≡ true → 0 < length d → capped (value d) ≡ Some v → number_of d ≡ Some v
number_of_lem [] v e h p = absurd (omega arith)
number_of_lem (a ∷ d) v e h p =
    let b = between 48 57 a (and_left (digit a) (all digit d) e) in
    let o = take_while_all digit (a ∷ d) e in
    read_all (a ∷ d) (a ∷ d) (not_signed (a ∷ d) (λ rest q. omega (arith, ap (λ (s : List ℕ). get_or s 0 0) q))) (λ q. omega (arith, ap length o)) (omega (arith, ap length o))
    ∙ ap (λ (s : List ℕ). capped (value s)) o ∙ p

abbrev run : List ℕ → ℕ → List ℕ
run text at = take_while digit (drop at text)

pub run_within : (text : List ℕ) (at : ℕ) → 0 < length (run text at) → at + length (run text at) ≤ length text
run_within text at p = let h = length-take_while digit (drop at text) in omega (arith, length-drop at text)

-- a word, a space and digits
pub operand_read : (text : List ℕ) (at k digits : ℕ) → WordAt text at k digits → (v end : ℕ) → 0 < length (run text digits) → capped (value (run text digits)) ≡ Some v
    → end ≡ digits + length (run text digits) → OperationAt text at k v end
operand_read text at k digits p v end h q m =
    let w = (kind_of k).word in
    let d = run text digits in
    let c : length (w ++ 32 ∷ []) ≡ suc (length w) = omega (arith, length-append w (32 ∷ [])) in
    let g : drop at text ≡ (w ++ 32 ∷ []) ++ drop digits text =
    behind (w ++ 32 ∷ []) text at digits p.stands (p.place ∙ ap (λ (i : ℕ). at + i) (sym c)) in
    let u : drop digits text ≡ d ++ drop end text =
    take_while-drop digit (drop digits text)
    ∙ ap (λ (s : List ℕ). d ++ s) (drop-drop (length d) digits text ∙ ap (λ (i : ℕ). drop i text) (sym m)) in
    let l : line_with k d ≡ w ++ (32 ∷ d) = ap (λ (b : Bool). w ++ cond b (32 ∷ d) []) p.followed in
    let s = p.place in
    record {
      digits = d;
      number = v;
      below = p.below;
      all = all_take_while digit (drop digits text);
      some = h;
      is = number_of_lem d v (all_take_while digit (drop digits text)) h q;
      operand = sym (ap (λ (b : Bool). cond b v 0) p.followed);
      stands = g ∙ ap (λ (s : List ℕ). (w ++ 32 ∷ []) ++ s) u ∙ append_assoc w (32 ∷ []) (d ++ drop end text)
          ∙ sym (append_assoc w (32 ∷ d) (drop end text)) ∙ ap (λ (s : List ℕ). s ++ drop end text) (sym l);
      place = omega (arith, ap length l, length-append w (32 ∷ d));
    }

pub operation-within : (text : List ℕ) (at k v end : ℕ) → at ≤ length text → OperationAt text at k v end → end ≤ length text
operation-within text at k v end h o =
    let l = line_with k o.digits in
    let p = o.place in
    omega (arith, ap length o.stands, length-append l (drop end text), length-drop at text, length-drop end text)
