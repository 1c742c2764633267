-- Laws of an expression on a line: what the parser answers, and what follows from it.
use Rattle.std.specs.Prelude.{Result, Ok, Err, MatchResult}
use Rattle.std.specs.Result.{IsErrAnd}
use Rattle.scope.specs.declared.refusal.AssembleError.{AssembleError}
use Prim.Native.Nat.{ℕ, ◌<◌, ◌≤◌}
use mathlib.Core.Path.{◌≡◌, refl, sym, ap, subst, ◌∙◌}
use mathlib.Core.List.{List}
use native.Mathlib.Omega.{arith}
use borrow.Author.Tests.{lt-leb}
use lib.ListN.{take, drop}
use Rattle.numbered.specs.declared.Numbered.{Numbered}
use Rattle.base.specs.Outcome.{Outcome, is, refused}
use Rattle.base.proofs.Parts.{take-drop_slice}
use Rattle.figures.specs.declared.Figures.{Figures}
use Rattle.expression.specs.declared.ExprError.{ExprError}
use Rattle.grammar.specs.Tree.{Tree, k_of}
use Rattle.grammar.specs.Parse.{Env, meaning}
use Rattle.figures.specs.Code.Figures.{FiguresOf}
use Rattle.bindings.specs.Code.Table.{Columns, TableFor}
use Rattle.grammar.specs.Code.Meant.{meaning_answer, ShortText}
use Rattle.expression.specs.Code.Answers.{parse_answer, Answers}
use Rattle.expression.proofs.Meaning.{held_told}
use Rattle.scope.specs.declared.refusal.AssembleError.TheVariants.{Expression, TooLong}
use Rattle.scope.specs.Part.{part}
use Rattle.scope.specs.Code.Stored.{FiguresFit}
use Rattle.body.specs.Code.Checked.{Checks, ChecksAll}
use Rattle.scope.specs.Code.Held.{Within}
use Rattle.scope.proofs.Tables.{p_at_most}

module _ (line : ℕ) where
  -- the parser's answer, with the line that a refusal names
  abbrev pub on_line : Result Figures ExprError → Result Figures AssembleError
  on_line (Ok v) = Ok v
  on_line (Err e) = Err (Expression e line)

  -- what `map_err` answers, by what its closure says of a refusal
  pub mapped : {Q : ExprError → AssembleError → Type 0} → ((e : ExprError) (d : AssembleError) → Q e d → d ≡ Expression e line)
      → (p : Result Figures ExprError) {m : Result Figures AssembleError} → MatchResult p (λ v. m ≡ Ok v) (λ e. IsErrAnd m (Q e)) → on_line p ≡ m
  mapped f (Ok v) h = sym h
  mapped f (Err e) {m = Ok v} h = absurd h
  mapped f (Err e) {m = Err d} h = ap (λ (x : AssembleError). Err x) (sym (f e d h))

  refused_checks : (e : ExprError) (m : Outcome Numbered Tree) → parse_answer (Err e) ≡ meaning_answer m → Checks m line (Err (Expression e line))
  refused_checks e (refused r) q f = cc
  refused_checks e (is t) q f = absurd (let z : ◌≡◌ {A = ℕ} 0 1 = cc in omega arith)

  long_checks : (v : Figures) (m : Outcome Numbered Tree) → parse_answer (Ok v) ≡ meaning_answer m → 32768 < v.k → Checks m line (Err (TooLong line))
  long_checks v (refused r) q l f = absurd (let z : ◌≡◌ {A = ℕ} 0 1 = cc in omega arith)
  long_checks v (is t) q l f =
      let k : v.k ≡ k_of t = cc in
      let b = lt-leb (k_of t) 32768 (omega arith) in
      rw b

  done_checks : (v : Figures) (m : Outcome Numbered Tree) → parse_answer (Ok v) ≡ meaning_answer m → ShortText m → v.k ≤ 32768 → Checks m line (Ok v)
  done_checks v (refused r) q h l = absurd (let z : ◌≡◌ {A = ℕ} 0 1 = cc in omega arith)
  done_checks v (is t) q h l =
      let k : v.k ≡ k_of t = cc in
      (t, (refl, (omega arith, record { k = k; p = cc; value = cc; len = cc; short = h })))

-- the expression from start to end of the contract
module _ (s : List ℕ) (start end : ℕ) (w : Within s start end) (c : Columns) (line : ℕ) where
  text : part s start end ≡ drop start (take end s)
  text = take-drop_slice s start end w.ordered w.inside

  checks_all : {r : Result Figures AssembleError} → ((env : Env) → TableFor (take end s) c env → Checks (meaning env (drop start (take end s))) line r) → ChecksAll (take end s) c line (part s start end) r
  checks_all {r} f = record { is = λ env h. subst (λ (x : List ℕ). Checks (meaning env x) line r) (sym text) (f env h) }

  module _ {p : Result Figures ExprError} (a : Answers (take end s) start c p) {m : Result Figures AssembleError} (x : on_line line p ≡ m) where
    pub check_refused : {why : AssembleError} → m ≡ Err why → ChecksAll (take end s) c line (part s start end) (Err why)
    check_refused {why} q = go p a (x ∙ q)
      where
        go : (y : Result Figures ExprError) → Answers (take end s) start c y → on_line line y ≡ Err why → ChecksAll (take end s) c line (part s start end) (Err why)
        go (Ok v) b e = cc
        go (Err e) b z = subst (ChecksAll (take end s) c line (part s start end)) z (checks_all (λ env h. refused_checks line e (meaning env (drop start (take end s))) (b.is env (held_told h))))

    module _ {v : Figures} (q : m ≡ Ok v) where
      pub answers_done : Answers (take end s) start c (Ok v)
      answers_done = go p a (x ∙ q)
        where
          go : (y : Result Figures ExprError) → Answers (take end s) start c y → on_line line y ≡ Ok v → Answers (take end s) start c (Ok v)
          go (Ok u) b e = subst (Answers (take end s) start c) (let z : u ≡ v = cc in ap (λ (f : Figures). Ok f) z) b
          go (Err e) b z = cc

      pub check_long : 32768 < v.k → ChecksAll (take end s) c line (part s start end) (Err (TooLong line))
      check_long l = checks_all (λ env h. long_checks line v (meaning env (drop start (take end s))) (answers_done.is env (held_told h)) l)

      pub check_done : v.k ≤ 32768 → ChecksAll (take end s) c line (part s start end) (Ok v)
      check_done l = checks_all (λ env h. done_checks line v (meaning env (drop start (take end s))) (answers_done.is env (held_told h)) (answers_done.short env (held_told h)) l)

-- the figures of a tree with a small k fit the table
pub figures_small : {t : Tree} {v : Figures} → k_of t ≤ 32768 → FiguresOf t v → FiguresFit v
figures_small {t} {v} l f =
    let e = p_at_most t in
    record { k = let x = f.k in omega arith; p = let x = f.p in omega arith; len = let x = f.len in let y = f.short in omega arith }

-- what a check says, where it refuses and where it does not
module _ {s : List ℕ} {c : Columns} {line : ℕ} {t : List ℕ} {x : Result Figures AssembleError} (k : ChecksAll s c line t x) where
  pub checked_err : {why : AssembleError} → x ≡ Err why → ChecksAll s c line t (Err why)
  checked_err e = subst (ChecksAll s c line t) e k

  pub checked_ok : {v : Figures} → x ≡ Ok v → ChecksAll s c line t (Ok v)
  checked_ok e = subst (ChecksAll s c line t) e k
