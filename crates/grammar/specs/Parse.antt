-- The parser, by recursive descent over the list of tokens, with document 01's refusals 13 to 19 and document 02's comparisons.
use Rattle.std.specs.Prelude.{ℕ, zero, suc, ◌+◌, ◌*◌, ◌^◌, List, [], ◌∷◌, Bool, true, false, cond, ◌&&◌, ◌||◌, eqb, ltb, length}
use Rattle.std.specs.Prelude.{Option, Some, None}
use Rattle.numbered.specs.Numbered.{plain}
use Rattle.numbered.specs.declared.Numbered.{Numbered}
use Rattle.base.specs.Outcome.{Outcome, is, refused, and_then}
use Rattle.word.specs.Apply.{Binary, add, sub, mul, div, eq, lt}
use Rattle.base.specs.Lists.{all}
use Rattle.decimal.specs.Decimal.{digit, value}
use Rattle.token.specs.Token.{allowed, tokens}
use Rattle.grammar.specs.Tree.{Tree, num, bin}
pub use Rattle.grammar.specs.Environment.{Binding, Env, lookup}
pub use Rattle.grammar.specs.Grammar.{factor, term, sum, expression, depth}

-- the tree that is read and the tokens that follow, or the refusal
abbrev pub Parse : Type 0
Parse = Outcome Numbered (Tree × List (List ℕ))

-- the byte of a token of one byte; that of `=` for `==`, since a `=` alone is no token; else 0
abbrev pub symbol : List ℕ → ℕ
symbol [] = 0
symbol (a ∷ []) = cond (eqb a 61) 0 a
symbol (a ∷ b ∷ []) = cond (eqb a 61 && eqb b 61) 61 0
symbol (a ∷ b ∷ c ∷ w) = 0

-- whether a sign is an operator of a level, which joins what is one level below:
-- `*` and `/` join factors to a term, `+` and `-` terms to a sum, `<` and `==` sums to an expression
abbrev pub is_operator_at : ℕ → ℕ → Bool
is_operator_at zero a = false
is_operator_at (suc zero) a = eqb a 42 || eqb a 47
is_operator_at (suc (suc zero)) a = eqb a 43 || eqb a 45
is_operator_at (suc (suc (suc zero))) a = eqb a 60 || eqb a 61
is_operator_at (suc (suc (suc (suc l)))) a = false

abbrev pub operator : ℕ → Binary
operator a = cond (eqb a 43) add (cond (eqb a 45) sub (cond (eqb a 42) mul (cond (eqb a 60) lt (cond (eqb a 61) eq div))))

abbrev pub joined : Binary → Tree → Tree × List (List ℕ) → Tree × List (List ℕ)
joined op l (r, ts) = (bin op l r, ts)

-- what is read behind `(`, with the `)` that is due
abbrev pub closed : Tree × List (List ℕ) → Parse
closed (t, []) = refused (plain 14)
closed (t, w ∷ ts) = cond (eqb (symbol w) 41) (is (t, ts)) (refused (plain 15))

-- `(` where d more parentheses may be open
abbrev pub nested : ℕ → (ℕ → Parse) → Parse
nested zero inner = refused (plain 18)
nested (suc d) inner = and_then (inner d) closed

abbrev pub named : Option Tree → Outcome Numbered Tree
named None = refused (plain 17)
named (Some t) = is t

abbrev pub literal : List ℕ → Outcome Numbered Tree
literal w = cond (ltb (value w) (2 ^ 64)) (is (num (value w))) (refused (plain 16))

-- a factor of one token
abbrev pub atom : Env → List ℕ → Outcome Numbered Tree
atom env w = cond (all digit w) (literal w) (named (lookup w env))

-- Fuel, level, environment, how many more parentheses may be open, tokens. A fuel of 8 for each token and one more than the level is enough.
unfoldable mutual
  pub parse_f : ℕ → ℕ → Env → ℕ → List (List ℕ) → Parse
  parse_f zero l env d ts = refused (plain 14)
  parse_f (suc f) zero env d [] = refused (plain 14)
  parse_f (suc f) zero env d (w ∷ ts) = elim (eqb (symbol w) 40) [ true ↦ nested d (λ e. parse_f f expression env e ts) | false ↦ and_then (atom env w) (λ t. is (t, ts)) ]
  parse_f (suc f) (suc l) env d ts = and_then (parse_f f l env d ts) (λ r. more_f f l env d r)

  -- what level l + 1 joins to a tree of it that is read
  pub more_f : ℕ → ℕ → Env → ℕ → Tree × List (List ℕ) → Parse
  more_f zero l env d r = is r
  more_f (suc f) l env d (t, []) = is (t, [])
  more_f (suc f) l env d (t, w ∷ ts) = elim (is_operator_at (suc l) (symbol w)) [ true ↦ and_then (parse_f f l env d ts) (λ r. more_f f l env d (joined (operator (symbol w)) t r)) | false ↦ is (t, w ∷ ts) ]

abbrev pub enough : ℕ → List (List ℕ) → ℕ
enough l ts = 8 * length ts + suc l

-- an expression at the start of a list of tokens
abbrev pub parsed : Env → List (List ℕ) → Parse
parsed env ts = parse_f (enough expression ts) expression env depth ts

abbrev pub all_read : Tree × List (List ℕ) → Outcome Numbered Tree
all_read (t, []) = is t
all_read (t, w ∷ ts) = refused (plain 19)

-- what a text means as a whole expression: its tree, or the refusal
unfoldable pub meaning : Env → List ℕ → Outcome Numbered Tree
meaning env s = elim (allowed s) [ true ↦ and_then (parsed env (tokens s)) all_read | false ↦ refused (plain 13) ]
