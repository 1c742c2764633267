-- What expression, sum, term and factor promise: at level l, starting at an offset of a text, with d more parentheses that may be open.
use Rattle.std.specs.Prelude.{Result, Ok, Err}
use Rattle.expression.specs.declared.ExprError.{ExprError}
use Rattle.expression.specs.declared.Operand.{Operand}
use Rattle.std.specs.Prelude.{ℕ, ◌-◌, ◌*◌, ◌^◌, ◌<◌, ◌≤◌, ◌≡◌, List, false, length, get_or, drop}
use Rattle.token.specs.Token.{space, tokens}
use Rattle.figures.specs.declared.Figures.{Figures}
use Rattle.grammar.specs.Tree.{Tree}
use Rattle.grammar.specs.Parse.{Env}
use Rattle.grammar.specs.Code.Reads.{Reads, Refuses}
use Rattle.expression.specs.Answer.{expr_error_numbered}
use Rattle.bindings.specs.declared.names.Known.{Known}
use Rattle.bindings.specs.Code.Known.{Few}
use Rattle.bindings.specs.Code.Table.{Columns, TableFor}
use Rattle.figures.specs.Code.Figures.{FiguresOf}
use Rattle.expression.specs.Code.Parts.{sign_at}

-- what is read ends within the text, with a byte of a token; the bounds exclude that a sum overflows
pub record ReadWithin (s : List ℕ) (at : ℕ) (v : Figures) : Type 0 where
  pub past : at < v.next
  pub within : v.next ≤ length s
  pub last : space (get_or s (v.next - 1) 0) ≡ false
  pub k : v.k ≤ 65535 * (v.next - at)
  pub p : v.p ≤ 65535 * (v.next - at)
  pub len : v.len ≤ 2 ^ 32 * (v.next - at)

-- and the sign behind it is the next token
abbrev pub Fine : List ℕ → ℕ → Result Operand ExprError → Type 0
Fine s at (Ok o) = ReadWithin s at o.figures × (o.sign ≡ sign_at s o.figures.next)
Fine s at (Err e) = Unit {0}

abbrev pub MeansAt : List ℕ → ℕ → Env → ℕ → ℕ → Result Operand ExprError → Type 0
MeansAt s at env l d (Ok o) = (t : Tree) × (Reads env l d (tokens (drop at s)) t (tokens (drop o.figures.next s)) × FiguresOf t o.figures)
MeansAt s at env l d (Err e) = Refuses env l d (tokens (drop at s)) (expr_error_numbered e)

-- in every environment that the table holds
pub record ParsesAs (s : List ℕ) (at : ℕ) (c : Columns) (l d : ℕ) (r : Result Operand ExprError) : Type 0 where
  pub fine : Fine s at r
  pub means : (env : Env) → TableFor s c env → MeansAt s at env l d r

pub record CanParse (k : Known) : Type 0 where
  pub short : length k.text.now ≤ 65536
  pub few : Few k
