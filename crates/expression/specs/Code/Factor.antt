-- A factor as its first token says it: `(`, a literal, or a name of one of the bindings.
use Rattle.std.specs.Prelude.{ℕ, List, [], ◌∷◌, Result, Ok, Err, cond, eqb, drop, ok_or, option_map}
use Rattle.base.specs.Lists.{all}
use Rattle.decimal.specs.Decimal.{digit, value}
use Rattle.decimal.specs.Code.Digits.{capped}
use Rattle.token.specs.Token.{tokens}
use Rattle.token.specs.Code.Places.{end_at}
use Rattle.grammar.specs.Parse.{symbol}
use Rattle.bindings.specs.declared.names.Known.{Known}
use Rattle.bindings.specs.Code.Table.{found}
use Rattle.expression.specs.declared.factors.Factor.{Factor}
use Rattle.expression.specs.declared.factors.Factor.TheVariants.{Open, Literal, Name}
use Rattle.expression.specs.declared.factors.FactorAt.{FactorAt}
use Rattle.expression.specs.declared.ExprError.{ExprError}
use Rattle.expression.specs.declared.ExprError.TheVariants.{UnexpectedEnd, InvalidLiteral, UnknownIdentifier}

-- of a token; the names of the first count bindings stand in the text s
abbrev pub factor_of : (s : List ℕ) (count : ℕ) (names lens tags : List ℕ) → List ℕ → Result Factor ExprError
factor_of s count names lens tags w =
    cond (eqb (symbol w) 40) (Ok Open)
    (cond (all digit w) (ok_or (option_map Literal (capped (value w))) InvalidLiteral)
    (ok_or (option_map Name (found count s names lens tags w)) UnknownIdentifier))

abbrev pub first_factor : (s : List ℕ) (count : ℕ) (names lens tags : List ℕ) → List (List ℕ) → Result Factor ExprError
first_factor s count names lens tags [] = Err UnexpectedEnd
first_factor s count names lens tags (w ∷ ts) = factor_of s count names lens tags w

abbrev pub ending : ℕ → Result Factor ExprError → Result FactorAt ExprError
ending end (Ok factor) = Ok (record { factor = factor; end = end })
ending end (Err e) = Err e

-- starting at an offset of a text
abbrev pub factor_at : (s expr : List ℕ) (at count : ℕ) (names lens tags : List ℕ) → Result FactorAt ExprError
factor_at s expr at count names lens tags = ending (end_at expr at) (first_factor s count names lens tags (tokens (drop at expr)))

-- with the names of the bindings that are known
module _ (k : Known) where
  abbrev pub known_factor : List ℕ → Result Factor ExprError
  known_factor w = factor_of k.text.now k.count k.table.now.name_start k.table.now.name_len k.values.now.tag w

  abbrev pub known_factor_at : List ℕ → ℕ → Result FactorAt ExprError
  known_factor_at expr at = factor_at k.text.now expr at k.count k.table.now.name_start k.table.now.name_len k.values.now.tag
