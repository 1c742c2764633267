-- Runs from related storages go alike, where every operation of the program respects the relation.
use Rattle.std.proofs.Common.{◌≡◌, ℕ, zero, suc, ◌+◌, ◌-◌, ◌<◌, ◌≤◌, Bool, true, false, cond, ltb, List, [], ◌∷◌, length, get_or, refl, subst, arith}
use native.Mathlib.Decide.{dec_lt}
use Rattle.std.specs.Prelude.{Option, Some, None}
use Rattle.word.specs.Apply.{Binary, add, sub, mul, div, eq, lt, apply}
use Rattle.kinds.specs.Kinds.{Operation, operation}
use Rattle.kinds.proofs.ByKind.{Span, end, ◌&◌, span}
use Rattle.machine.specs.Machine.{stack_limit_exceeded, outside_storage, Frame, Effect, moves, jumps, ends, fails, Act, over, costs, next, done, stop, store_at, push_of, result_of, binop_of, dup_of, swap_of, jump_if_of, store_of, effect_of, price_of, halt, settle, pay, act_of, machine, follow, run_of, start, run_to_end, Progress}
use Rattle.machine.specs.Code.Alike.{holding, AlikeBut}
use Rattle.machine.proofs.Program.{effect_high}
use Rattle.machine.proofs.Runs.{unpaid, afforded}

module _ (R : List ℕ → List ℕ → Type 0) where
  abbrev SameEffect : Effect → Effect → Type 0
  SameEffect (moves s m) e' = (m' : List ℕ) × (e' ≡ moves s m') × R m m'
  SameEffect (jumps t s m) e' = (m' : List ℕ) × (e' ≡ jumps t s m') × R m m'
  SameEffect ends e' = e' ≡ ends
  SameEffect (fails f) e' = e' ≡ fails f

  -- what an operation that looks at the storage, a Load or a Store, asks of the relation
  pub record Respects (o : Operation) : Type 0 where
    pub loads : o.kind ≡ 11 → (m m' : List ℕ) → R m m' → get_or m o.operand 0 ≡ get_or m' o.operand 0
    pub stores : o.kind ≡ 12 → (v : ℕ) (m m' : List ℕ) → R m m' → R (store_at m o.operand v) (store_at m' o.operand v)
    pub price : (m m' : List ℕ) → R m m' → price_of o (length m) ≡ price_of o (length m')

  same_cond : (b : Bool) (e f e' f' : Effect) → SameEffect e e' → SameEffect f f' → SameEffect (cond b e f) (cond b e' f')
  same_cond true e f e' f' p q = p
  same_cond false e f e' f' p q = q

  module _ (m m' : List ℕ) (r : R m m') where
    same_push : (v : ℕ) (s : List ℕ) → SameEffect (push_of v s m) (push_of v s m')
    same_push v s = same_cond (ltb (length s) 4096) (moves (v ∷ s) m) (fails stack_limit_exceeded) (moves (v ∷ s) m') (fails stack_limit_exceeded) (m', refl, r) refl

    same_value : (o : Option ℕ) (s : List ℕ) → SameEffect (result_of o s m) (result_of o s m')
    same_value None s = refl
    same_value (Some v) s = (m', refl, r)

    same_two : (o : Binary) (s : List ℕ) → SameEffect (binop_of o s m) (binop_of o s m')
    same_two o [] = refl
    same_two o (b ∷ []) = refl
    same_two o (b ∷ a ∷ s) = same_value (apply o a b) s

    same_dup : (s : List ℕ) → SameEffect (dup_of s m) (dup_of s m')
    same_dup [] = refl
    same_dup (a ∷ s) = same_push a (a ∷ s)

    same_swap : (s : List ℕ) → SameEffect (swap_of s m) (swap_of s m')
    same_swap [] = refl
    same_swap (b ∷ []) = refl
    same_swap (b ∷ a ∷ s) = (m', refl, r)

    same_jump : (t : ℕ) (s : List ℕ) → SameEffect (jumps t s m) (jumps t s m')
    same_jump t s = (m', refl, r)

    same_jump_if : (test : ℕ → Bool) (t : ℕ) (s : List ℕ) → SameEffect (jump_if_of test t s m) (jump_if_of test t s m')
    same_jump_if test t [] = refl
    same_jump_if test t (v ∷ s) = same_cond (test v) (jumps t s m) (moves s m) (jumps t s m') (moves s m') (m', refl, r) (m', refl, r)

    same_store : (room i : ℕ) (s : List ℕ) → ((v : ℕ) → R (store_at m i v) (store_at m' i v)) → SameEffect (store_of room i s m) (store_of room i s m')
    same_store room i [] h = refl
    same_store room i (v ∷ s) h =
        same_cond (ltb i 65536) _ _ _ _
        (same_cond (ltb i room) (moves s (store_at m i v)) (fails outside_storage) (moves s (store_at m' i v)) (fails outside_storage) (store_at m' i v, refl, h v) refl)
        refl

    same_effect : (c room : ℕ) (o : Operation) (s : List ℕ) → Respects o → SameEffect (effect_of c room o s m) (effect_of c room o s m')
    same_effect c room o s h = go (dec_lt o.kind 15)
      where
        v : ℕ
        v = o.operand

        Same : ℕ → Type 0
        Same k = (k ≡ 11 → get_or m v 0 ≡ get_or m' v 0) → (k ≡ 12 → (x : ℕ) → R (store_at m v x) (store_at m' v x)) → SameEffect (effect_of c room (operation k v) s m) (effect_of c room (operation k v) s m')

        each : Span Same 0 15
        each =
            (λ _ _. same_push v s)
            & (λ _ _. same_two add s)
            & (λ _ _. same_two sub s)
            & (λ _ _. same_two mul s)
            & (λ _ _. same_two div s)
            & (λ _ _. same_dup s)
            & (λ _ _. same_swap s)
            & (λ _ _. same_jump v s)
            & (λ _ _. same_jump_if _ v s)
            & (λ _ _. same_two eq s)
            & (λ _ _. same_two lt s)
            & (λ loads _. rw (loads refl) (same_push (get_or m' v 0) s))
            & (λ _ stores. same_store room v s (stores refl))
            & (λ _ _. same_push c s)
            & (λ _ _. same_jump_if _ v s)
            & end

        go : Dec (o.kind < 15) → SameEffect (effect_of c room o s m) (effect_of c room o s m')
        go (yes l) = span 0 15 o.kind each (omega arith) l (λ e. h.loads e m m' r) (λ e x. h.stores e x m m' r)
        go (no l) = rw (effect_high c room o.kind v (omega arith)) refl

  same_settle : (g : ℕ) (fr : Frame) (m' : List ℕ) (e e' : Effect) → R fr.storage m' → SameEffect e e' → AlikeBut R (settle g fr e) (settle g (holding m' fr) e')
  same_settle g fr m' (moves s m) e' r h = rw h.1 (h.0, refl, h.2)
  same_settle g fr m' (jumps t s m) e' r h = rw h.1 (h.0, refl, h.2)
  same_settle g fr m' ends e' r h = rw h (m', refl, r)
  same_settle g fr m' (fails f) e' r h = rw h

  same_pay : (p g : ℕ) (fr : Frame) (m' : List ℕ) (e e' : Effect) → R fr.storage m' → SameEffect e e' → AlikeBut R (pay g fr (costs p e)) (pay g (holding m' fr) (costs p e'))
  same_pay p g fr m' e e' r h = go (dec_lt g p)
    where
      go : Dec (g < p) → AlikeBut R (pay g fr (costs p e)) (pay g (holding m' fr) (costs p e'))
      go (yes l) = rw (unpaid g p fr e l, unpaid g p (holding m' fr) e' l)
      go (no l) = let k : p ≤ g = omega arith in rw (afforded g p fr e k, afforded g p (holding m' fr) e' k) (same_settle (g - p) fr m' e e' r h)

  module _ (program : List Operation) (c room : ℕ) (respects : (i : ℕ) → Respects (get_or program i halt)) where
    same_step : (g : ℕ) (fr : Frame) (m' : List ℕ) → R fr.storage m' → AlikeBut R (pay g fr (machine program c room fr)) (pay g (holding m' fr) (machine program c room (holding m' fr)))
    same_step g fr m' r = go (ltb fr.pos (length program))
      where
        op : Operation
        op = get_or program fr.pos halt

        go : (b : Bool) → AlikeBut R (pay g fr (cond b (act_of c room op fr) over)) (pay g (holding m' fr) (cond b (act_of c room op (holding m' fr)) over))
        go true =
            let e = effect_of c room op fr.stack fr.storage in
            let e' = effect_of c room op fr.stack m' in
            subst (λ (p : ℕ). AlikeBut R (pay g fr (costs (price_of op (length fr.storage)) e)) (pay g (holding m' fr) (costs p e'))) ((respects fr.pos).price fr.storage m' r)
            (same_pay (price_of op (length fr.storage)) g fr m' e e' r (same_effect fr.storage m' r c room op fr.stack (respects fr.pos)))
        go false = (m', refl, r)

    pub same_run : (n g : ℕ) (fr : Frame) (m' : List ℕ) → R fr.storage m' → AlikeBut R (run_of (machine program c room) n g fr) (run_of (machine program c room) n g (holding m' fr))
    unfolding run_of
    same_run zero g fr m' r = (m', refl, r)
    same_run (suc n) g fr m' r = go (pay g fr (machine program c room fr)) _ (same_step g fr m' r) (λ h f x q. same_run n h f x q)
      where
        act : Frame → Act
        act = machine program c room

        go : (o o' : Progress) → AlikeBut R o o' → ((h : ℕ) (f : Frame) (x : List ℕ) → R f.storage x → AlikeBut R (run_of act n h f) (run_of act n h (holding x f)))
            → AlikeBut R (follow o (run_of act n)) (follow o' (run_of act n))
        go (next h f) o' w ih = rw w.1 (ih h f w.0 w.2)
        go (done h f) o' w ih = rw w.1 (w.0, refl, w.2)
        go (stop e) o' w ih = rw w

    pub same_whole : (g : ℕ) (m m' : List ℕ) → R m m' → AlikeBut R (run_to_end program c room g m) (run_to_end program c room g m')
    unfolding run_to_end
    same_whole g m m' r = same_run (g + 1) g (start m) m' r
