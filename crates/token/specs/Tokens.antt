-- What the tokens of a text are, as a reader would write it: each is as long as it can be.
use Rattle.std.specs.Prelude.{ℕ, ◌<◌, ◌≡◌, List, [], ◌∷◌, ◌++◌, true, length}
use Rattle.base.specs.Ascii.{ascii}
use Rattle.base.specs.Lists.{all}
use Rattle.decimal.specs.Decimal.{digit}
use Rattle.token.specs.Token.{space, name_start, name_part, sign}

-- the bytes w are a token
pub data IsToken : List ℕ → Type 0 where
  digits : {w : List ℕ} → 0 < length w → all digit w ≡ true → IsToken w
  name : {a : ℕ} {w : List ℕ} → name_start a ≡ true → all name_part w ≡ true → IsToken (a ∷ w)
  single : {a : ℕ} → sign a ≡ true → IsToken (a ∷ [])
  pair : IsToken (ascii "==")

-- no token starts with w and goes on into s
abbrev pub Longest : List ℕ → List ℕ → Type 0
Longest w s = (v u : List ℕ) → s ≡ v ++ u → 0 < length v → IsToken (w ++ v) → ⊥

-- the text s has the tokens ts and else only bytes that part them
pub data Tokens : List ℕ → List (List ℕ) → Type 0 where
  none : Tokens [] []
  parted : {a : ℕ} {s : List ℕ} {ts : List (List ℕ)} → space a ≡ true → Tokens s ts → Tokens (a ∷ s) ts
  token : {w s : List ℕ} {ts : List (List ℕ)} → IsToken w → Longest w s → Tokens s ts → Tokens (w ++ s) (w ∷ ts)
