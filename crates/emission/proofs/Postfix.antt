-- The walk over the tokens of an expression writes the text of its tree.
use Prim.Native.Nat.{ℕ, suc, ◌+◌, ◌*◌, ◌<◌, ◌≤◌}
use mathlib.Core.Path.{◌≡◌, refl, sym, ap, subst, ◌∙◌}
use mathlib.Core.List.{List, [], ◌∷◌, ◌++◌, append-nil, append_assoc}
use mathlib.Core.Bool.{true, false}
use native.Mathlib.Omega.{arith}
use lib.ListN.{length}
use Rattle.base.specs.Outcome.{is}
use Rattle.word.specs.Apply.{Binary}
use Rattle.token.specs.Token.{tokens}
use Rattle.grammar.specs.Tree.{Tree, bin}
use Rattle.grammar.specs.Parse.{Env, symbol, operator, meaning}
use Rattle.grammar.specs.Grammar.{levels, Derives, number, name, parentheses, alone, join}
use Rattle.grammar.specs.Code.Texts.{text_of}
use Rattle.grammar.proofs.Steps.{lone_is, level_is}
use Rattle.grammar.proofs.Grammar.{operator_is, digits_no_parenthesis, meaning_derives}
use Rattle.grammar.proofs.Written.{text_bin}
use Rattle.emission.specs.Code.Lines.{operator_text, operators_text}
use Rattle.grammar.specs.Code.Operator.{level_of}
use Rattle.emission.specs.Code.Waiting.{most, popped, left}
use Rattle.emission.proofs.Stack.{popped_one, popped_none, left_one, left_none, operators-append}
use Rattle.emission.proofs.Walk.{opens, closes, waits, Walks}
use Rattle.emission.proofs.Walk as Walk

-- no operator of level l or a tighter one is on top of the stack
record Starts (l : ℕ) (st : List ℕ) : Type 0 where
  popped : (p : ℕ) → p ≤ l → popped p st ≡ []
  left : (p : ℕ) → p ≤ l → left p st ≡ st

starts_empty : (l : ℕ) → Starts l []
unfolding popped left
starts_empty l = record { popped = λ p h. refl; left = λ p h. refl }

starts_top : (l y : ℕ) (st : List ℕ) → l < level_of y → Starts l (y ∷ st)
starts_top l y st h = record { popped = λ p g. popped_none p y st (omega arith); left = λ p g. left_none p y st (omega arith) }

starts_below : {l : ℕ} {st : List ℕ} → Starts (suc l) st → Starts l st
starts_below s = record { popped = λ p h. s.popped p (omega arith); left = λ p h. s.left p (omega arith) }

-- Behind tokens of level l that have the tree t: what is written and the text of the operators on top, which wait, are the text of the tree.
record Ends (env : Env) (l : ℕ) (st : List ℕ) (ts : List (List ℕ)) (t : Tree) : Type 0 where
  o' : List ℕ
  top : List ℕ
  all : o' ++ operators_text top ≡ text_of t
  popped : (p : ℕ) → l ≤ p → popped p (top ++ st) ≡ top ++ popped p st
  left : (p : ℕ) → l ≤ p → left p (top ++ st) ≡ left p st
  walks : (rest : List (List ℕ)) (o : List ℕ) → Walks env false (top ++ st) rest o → Walks env true st (ts ++ rest) (o' ++ o)

-- a factor leaves nothing waiting
factor_ends : (env : Env) (st : List ℕ) (ts : List (List ℕ)) (t : Tree) → ((rest : List (List ℕ)) (o : List ℕ) → Walks env false st rest o → Walks env true st (ts ++ rest) (text_of t ++ o)) → Ends env 0 st ts t
factor_ends env st ts t h = record { o' = text_of t; top = []; all = append-nil (text_of t); popped = λ p g. refl; left = λ p g. refl; walks = h }

-- tokens of the level below are tokens of a level
alone_ends : {env : Env} {l : ℕ} {st : List ℕ} {ts : List (List ℕ)} {t : Tree} → Ends env l st ts t → Ends env (suc l) st ts t
alone_ends v = record { o' = v.o'; top = v.top; all = v.all; popped = λ p h. v.popped p (omega arith); left = λ p h. v.left p (omega arith); walks = v.walks }

-- an expression in parentheses
module _ {env : Env} {st : List ℕ} {ts : List (List ℕ)} {t : Tree} (small : length st < most) (v : Ends env levels (40 ∷ st) ts t) where
  shut_popped : popped levels (v.top ++ 40 ∷ st) ≡ v.top
  shut_popped = v.popped levels (omega arith) ∙ ap (λ (x : List ℕ). v.top ++ x) (popped_none levels 40 st (omega arith)) ∙ append-nil v.top

  shut_left : left levels (v.top ++ 40 ∷ st) ≡ 40 ∷ st
  shut_left = v.left levels (omega arith) ∙ left_none levels 40 st (omega arith)

  shut_walks : (rest : List (List ℕ)) (o : List ℕ) → Walks env false st rest o → Walks env true (40 ∷ st) (ts ++ (41 ∷ []) ∷ rest) (text_of t ++ o)
  shut_walks rest o h =
      let s = v.walks ((41 ∷ []) ∷ rest) (operators_text v.top ++ o) (closes refl st shut_left o (ap (λ (x : List ℕ). operators_text x ++ o) (sym shut_popped)) h) in
      subst (Walks env true (40 ∷ st) (ts ++ (41 ∷ []) ∷ rest)) (sym (append_assoc v.o' (operators_text v.top) o) ∙ ap (λ (x : List ℕ). x ++ o) v.all) s

  parentheses_end : Ends env 0 st ((40 ∷ []) ∷ ts ++ (41 ∷ []) ∷ []) t
  parentheses_end = factor_ends env st ((40 ∷ []) ∷ ts ++ (41 ∷ []) ∷ []) t (λ rest o h. opens refl small (subst (λ (x : List (List ℕ)). Walks env true (40 ∷ st) x (text_of t ++ o)) (sym (append_assoc ts ((41 ∷ []) ∷ []) rest)) (shut_walks rest o h)))

regroup : (a b c d : List ℕ) → (a ++ b) ++ (c ++ (d ++ [])) ≡ (a ++ (b ++ c)) ++ d
regroup a b c d = simp (append_assoc, append-nil)

-- one more operator of a level, and its right side
module _ {env : Env} {l : ℕ} {st : List ℕ} {ts us : List (List ℕ)} {t u : Tree} (w : List ℕ) (low : l < levels) (small : length st < most) (s : Starts (suc l) st) (v : Ends env (suc l) st ts t) (level : level_of (symbol w) ≡ suc l) (n : Ends env l (symbol w ∷ st) us u) where
  join_popped : popped (level_of (symbol w)) (v.top ++ st) ≡ v.top
  join_popped = v.popped (level_of (symbol w)) (omega arith) ∙ ap (λ (x : List ℕ). v.top ++ x) (s.popped (level_of (symbol w)) (omega arith)) ∙ append-nil v.top

  join_left : left (level_of (symbol w)) (v.top ++ st) ≡ st
  join_left = v.left (level_of (symbol w)) (omega arith) ∙ s.left (level_of (symbol w)) (omega arith)

  join_waits : (rest : List (List ℕ)) (o : List ℕ) → Walks env true (symbol w ∷ st) rest o → Walks env false (v.top ++ st) (w ∷ rest) (operators_text v.top ++ o)
  join_waits rest o h =
      waits (omega arith) (omega (arith, ap length join_left)) o (ap (λ (x : List ℕ). operators_text x ++ o) (sym join_popped))
      (subst (λ (x : List ℕ). Walks env true (symbol w ∷ x) rest o) (sym join_left) h)

  join_walks : (rest : List (List ℕ)) (o : List ℕ) → Walks env false ((n.top ++ symbol w ∷ []) ++ st) rest o → Walks env true st ((ts ++ w ∷ us) ++ rest) ((text_of t ++ n.o') ++ o)
  join_walks rest o h =
      let a = n.walks rest o (subst (λ (x : List ℕ). Walks env false x rest o) (append_assoc n.top (symbol w ∷ []) st) h) in
      let b = v.walks (w ∷ us ++ rest) (operators_text v.top ++ (n.o' ++ o)) (join_waits (us ++ rest) (n.o' ++ o) a) in
      let c = subst (λ (x : List (List ℕ)). Walks env true st x (v.o' ++ (operators_text v.top ++ (n.o' ++ o)))) (sym (append_assoc ts (w ∷ us) rest)) b in
      subst (Walks env true st ((ts ++ w ∷ us) ++ rest))
      (sym (append_assoc v.o' (operators_text v.top) (n.o' ++ o)) ∙ ap (λ (x : List ℕ). x ++ (n.o' ++ o)) v.all ∙ sym (append_assoc (text_of t) n.o' o))
      c

  join_text : (text_of t ++ n.o') ++ operators_text (n.top ++ symbol w ∷ []) ≡ text_of (bin (operator (symbol w)) t u)
  join_text =
      ap (λ (x : List ℕ). (text_of t ++ n.o') ++ x) (operators-append n.top (symbol w ∷ []))
      ∙ regroup (text_of t) n.o' (operators_text n.top) (operator_text (symbol w))
      ∙ ap (λ (x : List ℕ). (text_of t ++ x) ++ operator_text (symbol w)) n.all
      ∙ sym (text_bin (operator (symbol w)) t u)

  join_pops : (p : ℕ) → suc l ≤ p → popped p ((n.top ++ symbol w ∷ []) ++ st) ≡ (n.top ++ symbol w ∷ []) ++ popped p st
  join_pops p h =
      ap (popped p) (append_assoc n.top (symbol w ∷ []) st)
      ∙ n.popped p (omega arith)
      ∙ ap (λ (x : List ℕ). n.top ++ x) (popped_one p (symbol w) st (omega arith))
      ∙ sym (append_assoc n.top (symbol w ∷ []) (popped p st))

  join_leaves : (p : ℕ) → suc l ≤ p → left p ((n.top ++ symbol w ∷ []) ++ st) ≡ left p st
  join_leaves p h = ap (left p) (append_assoc n.top (symbol w ∷ []) st) ∙ n.left p (omega arith) ∙ left_one p (symbol w) st (omega arith)

  join_ends : Ends env (suc l) st (ts ++ w ∷ us) (bin (operator (symbol w)) t u)
  join_ends = record { o' = text_of t ++ n.o'; top = n.top ++ symbol w ∷ []; all = join_text; popped = join_pops; left = join_leaves; walks = join_walks }

-- tokens of a level, walked from a stack that leaves room for what waits in the parentheses that may still open
ends : {env : Env} {l d : ℕ} {ts : List (List ℕ)} {t : Tree} → Derives env l d ts t → l ≤ levels → (st : List ℕ) → length st + l + (levels + 1) * d ≤ most → Starts l st → Ends env l st ts t
ends {env} (number {d} {w} b a h) low st small s = factor_ends env st (w ∷ []) _ (λ rest o g. Walk.number (digits_no_parenthesis w a) a h o refl g)
ends {env} (name {d} {w} {t} n a h) low st small s = factor_ends env st (w ∷ []) t (λ rest o g. Walk.name (λ e. n (lone_is w 40 (omega arith) e)) a t h o refl g)
ends {env} (parentheses {d} {ts} {t} h) low st small s = parentheses_end (omega arith) (ends h (omega arith) (40 ∷ st) (omega arith) (starts_top levels 40 st (omega arith)))
ends {env} (alone {l} {d} {ts} {t} h) low st small s = alone_ends (ends h (omega arith) st (omega arith) (starts_below s))
ends {env} (join {l} {d} {ts} {us} {w} {op} {t} {u} h o g) low st small s =
    let j = operator_is o in
    let level = level_is (suc l) (symbol w) j.0 in
    subst (λ (x : Binary). Ends env (suc l) st (ts ++ w ∷ us) (bin x t u)) j.1
    (join_ends w (omega arith) (omega arith) s (ends h low st small s) level (ends g (omega arith) (symbol w ∷ st) (omega arith) (starts_top l (symbol w) st (omega arith))))

pub postfix : (env : Env) (s : List ℕ) (t : Tree) → meaning env s ≡ is t → Walks env true [] (tokens s) (text_of t)
postfix env s t e =
    let v = ends (meaning_derives env s t e).1 (omega arith) [] (omega arith) (starts_empty levels) in
    let p : popped levels (v.top ++ []) ≡ v.top = v.popped levels (omega arith) ∙ ap (λ (x : List ℕ). v.top ++ x) ((starts_empty levels).popped levels (omega arith)) ∙ append-nil v.top in
    let q : left levels (v.top ++ []) ≡ [] = v.left levels (omega arith) ∙ (starts_empty levels).left levels (omega arith) in
    let w = v.walks [] (operators_text v.top) (record { text = ap operators_text (sym p); empty = q }) in
    let x = subst (λ (x : List (List ℕ)). Walks env true [] x (v.o' ++ operators_text v.top)) (append-nil (tokens s)) w in
    subst (Walks env true [] (tokens s)) v.all x
