-- Signs, the figures of a name, closing parentheses and the end, as the code reads them.
use Rattle.std.specs.Prelude.{Option, Some, None, Result, Ok, Err}
use Rattle.expression.specs.declared.ExprError.{ExprError}
use Rattle.std.specs.Prelude.{ℕ, ◌+◌, ◌^◌, ◌<◌, ◌≤◌, ◌≡◌, List, [], ◌∷◌, cond, eqb, length, drop}
use Rattle.word.specs.declared.Operator.{Operator}
use Rattle.word.specs.declared.Operator.TheVariants.{Add, Sub, Mul, Div, Equal, Less}
use Rattle.token.specs.Token.{tokens}
use Rattle.token.specs.Code.Places.{start_at}
use Rattle.figures.specs.declared.Figures.{Figures}
use Rattle.expression.specs.declared.parts.Sign.{Sign}
use Rattle.expression.specs.declared.parts.SignAt.{SignAt}
use Rattle.expression.specs.declared.parts.Level.{Level}
use Rattle.expression.specs.declared.ExprError.TheVariants.{UnexpectedEnd, UnbalancedParenthesis, UnconsumedTokens}
use Rattle.expression.specs.declared.Operand.{Operand}
use Rattle.expression.specs.declared.Left.{Left}
use Rattle.word.specs.Code.Operator.{binary_of}
use Rattle.figures.specs.Code.Figures.{Joined}
use Rattle.grammar.specs.Parse.{symbol, term, sum, expression}
use Rattle.bindings.specs.Code.Table.{Entry, value_unless_none}

-- the sign of a byte, = being that of ==
abbrev pub sign_named : ℕ → Option Sign
sign_named a =
    cond (eqb a 40) (Some Sign.Open)
    (cond (eqb a 41) (Some Sign.Close)
    (cond (eqb a 43) (Some (Sign.Operator Add))
    (cond (eqb a 45) (Some (Sign.Operator Sub))
    (cond (eqb a 42) (Some (Sign.Operator Mul))
    (cond (eqb a 47) (Some (Sign.Operator Div))
    (cond (eqb a 60) (Some (Sign.Operator Less))
    (cond (eqb a 61) (Some (Sign.Operator Equal)) None)))))))

-- a token as a sign
abbrev pub sign_of : List ℕ → Option Sign
sign_of w = sign_named (symbol w)

abbrev pub placed : ℕ → Option Sign → Option SignAt
placed end None = None
placed end (Some sign) = Some (record { sign = sign; end = end })

-- the first of the tokens that start at an offset as a sign
abbrev pub first_sign : ℕ → List (List ℕ) → Option SignAt
first_sign i [] = None
first_sign i (w ∷ ts) = placed (i + length w) (sign_of w)

-- the token at or after an offset as a sign, where one is left and is one
abbrev pub sign_at : List ℕ → ℕ → Option SignAt
sign_at s at = first_sign (start_at s at) (tokens (drop at s))

-- the level that an operator joins operands to
abbrev pub level_of : Operator → Level
level_of Mul = Level.Product
level_of Div = Level.Product
level_of Add = Level.Sum
level_of Sub = Level.Sum
level_of Less = Level.Comparison
level_of Equal = Level.Comparison

-- its number in the grammar
abbrev pub level_number : Level → ℕ
level_number Level.Product = term
level_number Level.Sum = sum
level_number Level.Comparison = expression

-- the operator that a sign is, where it is of a level, and where its token ends
abbrev pub of_level : Level → Sign → ℕ → Option (Operator × ℕ)
of_level l (Sign.Operator op) end = cond (eqb (level_number (level_of op)) (level_number l)) (Some (op, end)) None
of_level l Sign.Open end = None
of_level l Sign.Close end = None

abbrev pub operator_in : Level → Option SignAt → Option (Operator × ℕ)
operator_in l None = None
operator_in l (Some sign) = of_level l sign.sign sign.end

-- r is the operand w alone where nothing stands before it, else what the operator before it joins to w
abbrev pub JoinedTo : Option Left → Operand → Operand → Type 0
JoinedTo None w r = r ≡ w
JoinedTo (Some x) w r = Joined (binary_of x.operator) x.figures w.figures r.figures × (r.sign ≡ w.sign)

-- a name that ends at an offset, read from its binding's entry, and that the figures fit their types
abbrev pub bound_read : Entry → ℕ → Figures
bound_read e end = record { next = end; k = e.k; p = e.p; len = e.size; value = value_unless_none e.none e.value }

pub record Fits (v : Figures) : Type 0 where
  pub k : v.k ≤ 65535
  pub p : v.p ≤ 65535
  pub len : v.len < 2 ^ 32

-- what was read in parentheses, by the tokens that follow it, the first of which ends at an offset
abbrev pub closed_read : List (List ℕ) → ℕ → Figures → Result Figures ExprError
closed_read [] end v = Err UnexpectedEnd
closed_read (w ∷ ts) end v = cond (eqb (symbol w) 41) (Ok (record { next = end; k = v.k; p = v.p; len = v.len; value = v.value })) (Err UnbalancedParenthesis)

-- what was read, where no token follows it
abbrev pub whole_read : List (List ℕ) → Figures → Result Figures ExprError
whole_read [] v = Ok v
whole_read (w ∷ ts) v = Err UnconsumedTokens
