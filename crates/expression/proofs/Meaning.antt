-- What the cycle reads of a whole expression is what the text means.
use Rattle.std.specs.Prelude.{Result, Ok, Err}
use Prim.Native.Nat.{ℕ, zero, suc, ◌-◌}
use mathlib.Core.Path.{◌≡◌, refl, sym, ap, subst, ◌∙◌}
use mathlib.Core.List.{List, [], ◌∷◌}
use mathlib.Core.Bool.{true, false}
use native.Mathlib.Omega.{arith}
use lib.ListN.{drop}
use Rattle.numbered.specs.Numbered.{plain}
use Rattle.numbered.specs.declared.Numbered.{Numbered}
use Rattle.base.specs.Outcome.{Outcome, is, refused, and_then}
use Rattle.token.specs.Token.{allowed, scan, tokens}
use Rattle.token.specs.Code.Places.{last_end}
use Rattle.token.proofs.LastEnd.{last_end_lem}
use Rattle.figures.specs.declared.Figures.{Figures}
use Rattle.expression.specs.declared.ExprError.{ExprError}
use Rattle.expression.specs.declared.ExprError.TheVariants.{InvalidCharacter}
use Rattle.expression.specs.declared.Operand.{Operand}
use Rattle.grammar.specs.Tree.{Tree}
use Rattle.grammar.specs.Parse.{Env, Parse, enough, parse_f, more_f, all_read, meaning, expression, depth}
use Rattle.figures.specs.Code.Figures.{FiguresOf}
use Rattle.bindings.specs.Code.Table.{Columns, columns_of, RowsFor, at_most256, TableFor}
use Rattle.expression.specs.Answer.{expr_error_numbered}
use Rattle.grammar.specs.Code.Meant.{meaning_answer, ShortText}
use Rattle.expression.specs.Code.Answers.{parse_answer, EndsLast, Answers}
use Rattle.expression.specs.Code.Parts.{whole_read}
use Rattle.expression.specs.Code.Cycle.{ReadWithin, ParsesAs}
use Rattle.grammar.proofs.Grammar.{meaning_whole, meaning-not_allowed}

-- from what a text means to what is promised of it
means : (s : List ℕ) (at : ℕ) (c : Columns) (r : Result Figures ExprError) → EndsLast s r → ((env : Env) → RowsFor s c (at_most256 c.count) env → (m : Outcome Numbered Tree) × ((meaning env (drop at s) ≡ m) × ((parse_answer r ≡ meaning_answer m) × ShortText m))) → Answers s at c r
means s at c r o f = record {
  is = λ env h. let x = f env h in x.1.1.0 ∙ sym (ap meaning_answer x.1.0);
  short = λ env h. let x = f env h in subst ShortText (sym x.1.0) x.1.1.1;
  ends = o;
}

pub not_allowed : (s : List ℕ) (at : ℕ) (c : Columns) → allowed (drop at s) ≡ false → Answers s at c (Err InvalidCharacter)
not_allowed s at c e = means s at c _ tt (λ env h. (refused (plain 13), (meaning-not_allowed env (drop at s) e, (refl, tt))))

figures_said : {t : Tree} {v : Figures} → FiguresOf t v → parse_answer (Ok v) ≡ meaning_answer (is t)
figures_said f = cc (f.k, f.p, f.value, f.len)

-- the same columns with another count
abbrev recount : ℕ → Columns → Columns
recount n c = columns_of n c.names c.lens c.tags c.ks c.ps c.values c.nones c.sizes

told_recount : (s : List ℕ) (c : Columns) (n m : ℕ) (env : Env) → RowsFor s c m env → RowsFor s (recount n c) m env
told_recount s c n zero [] h = tt
told_recount s c n zero (b ∷ env) h = absurd h
told_recount s c n (suc m) [] h = absurd h
told_recount s c n (suc m) (b ∷ env) (t, h) = (t, told_recount s c n m env h)

-- what is held is told
pub held_told : {s : List ℕ} {c : Columns} {env : Env} → TableFor s c env → RowsFor s c (at_most256 c.count) env
held_told {s} {c} {env} h = let r = h.room in let e : c.count ≡ at_most256 c.count = omega arith in subst (λ (n : ℕ). RowsFor s c n env) e h.told

-- behind what is read no token is left
read_ends : {s : List ℕ} {at : ℕ} {v : Figures} → ReadWithin s at v → tokens (drop v.next s) ≡ [] → v.next ≡ last_end s
read_ends {s} {at} {v} p q =
    let a = p.past in
    let w = p.within in
    let e : v.next ≡ suc (v.next - 1) = omega arith in
    e ∙ sym (last_end_lem s (v.next - 1) (omega arith) p.last (ap (λ (i : ℕ). tokens (drop i s)) (sym e) ∙ q))

-- the count as the code bounds it
module _ (s : List ℕ) (at : ℕ) (c : Columns) (n : ℕ) (few-is : n ≡ at_most256 c.count) (a : allowed (drop at s) ≡ true) where
  holds : (env : Env) → RowsFor s c (at_most256 c.count) env → TableFor s (recount n c) env
  holds env h = record { room = omega arith; told = told_recount s c n n env (rw few-is h) }

  pub refused_answers : {e : ExprError} → ParsesAs s at (recount n c) expression depth (Err e) → Answers s at c (Err e)
  refused_answers {e} m = means s at c _ tt (λ env h.
      let x = m.means env (holds env h) in
      (refused (expr_error_numbered e), (meaning_whole env (drop at s) a ∙ ap (λ (p : Parse). and_then p all_read) (x.same (enough expression (tokens (drop at s))) (omega arith)), (refl, tt))))

  pub done_answers : {o : Operand} (ts : List (List ℕ)) → tokens (drop o.figures.next s) ≡ ts → ParsesAs s at (recount n c) expression depth (Ok o) → Answers s at c (whole_read ts o.figures)
  done_answers [] q m = means s at c _ (read_ends m.fine.0 q) (λ env h.
      let x = m.means env (holds env h) in
      let f = x.1.1 in (
        is x.0,
        (
          meaning_whole env (drop at s) a ∙ ap (λ (p : Parse). and_then p all_read) (x.1.0.same (enough expression (tokens (drop at s))) (omega arith) ∙ ap (λ (ts : List (List ℕ)). is (x.0, ts)) q),
          (figures_said f, f.short),
        ),
      ))
  done_answers (w ∷ ts) q m = means s at c _ tt (λ env h.
      let x = m.means env (holds env h) in
      (refused (plain 19), (meaning_whole env (drop at s) a ∙ ap (λ (p : Parse). and_then p all_read) (x.1.0.same (enough expression (tokens (drop at s))) (omega arith) ∙ ap (λ (ts : List (List ℕ)). is (x.0, ts)) q), (refl, tt))))

-- an empty text is no expression
pub meaning_empty : (env : Env) → meaning env [] ≡ refused (plain 14)
unfolding meaning scan parse_f more_f
meaning_empty env = refl
