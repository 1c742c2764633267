-- What a caller of atc_parse_ops relies on.
use Rattle.std.specs.Prelude.{ℕ, suc, ◌+◌, ◌*◌, ◌≤◌, List, [], ◌∷◌, cond, eqb, length}
use Rattle.lines.specs.Lines.{lines}
use Rattle.ops.specs.Numbers.{parsed_ops_numbered}
use Rattle.ops.specs.Ops.{read_text, answer_of, ops_of}
use Rattle.mnemonic.specs.Written.{Each}
use Rattle.relied.specs.Numbers.{Among}

-- document 01's number of what reading answers
abbrev pub read_number : List ℕ → ℕ → ℕ
read_number text room = (parsed_ops_numbered (answer_of (read_text text room))).number

-- how many line feeds a text has
abbrev pub feeds : List ℕ → ℕ
feeds [] = 0
feeds (a ∷ s) = cond (eqb a 10) (suc (feeds s)) (feeds s)

-- any text, read with room for as many operations
pub record ReadRelied (text : List ℕ) (room : ℕ) : Type 0 where
  -- the `unreachable!` of `Op::decode`: no kind is above 15
  pub kinds : Each (λ o. o.kind ≤ 15) (ops_of (read_text text room))
  -- the header: "there is room for the shorter"; the operations that are told lie in the buffers
  pub within : length (ops_of (read_text text room)) ≤ room
  -- the header: "A text of n bytes has at most (n + 1) / 3 operations"
  pub third : 3 * length (ops_of (read_text text room)) ≤ length text + 1
  -- the header: "Gives 0, 27 to 33"
  pub gives : Among (0 ∷ 27 ∷ 28 ∷ 29 ∷ 30 ∷ 31 ∷ 32 ∷ 33 ∷ []) (read_number text room)
  -- with room for each line there is no 32
  pub roomy : length (lines text) ≤ room → Among (0 ∷ 27 ∷ 28 ∷ 29 ∷ 30 ∷ 31 ∷ 33 ∷ []) (read_number text room)
  -- the `unreachable!` of `parse_ops_bytes`, which lends room for one operation more than the text has line feeds
  pub lent : 1 + feeds text ≤ room → Among (0 ∷ 27 ∷ 28 ∷ 29 ∷ 30 ∷ 31 ∷ 33 ∷ []) (read_number text room)
