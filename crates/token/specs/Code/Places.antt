-- Tokens by their offsets in a text.
use Rattle.std.specs.Prelude.{ℕ, suc, ◌+◌, List, [], ◌∷◌, cond, ◌&&◌, eqb, length, drop, Option, Some, None}
use Rattle.base.specs.Lists.{take_while}
use Rattle.base.specs.declared.span.Span.{Span}
use Rattle.token.specs.Token.{space, tokens}

-- the first token; empty where there is none
abbrev pub first : List (List ℕ) → List ℕ
first [] = []
first (w ∷ ts) = w

-- where the first token at or after an offset starts
abbrev pub start_at : List ℕ → ℕ → ℕ
start_at s at = at + length (take_while space (drop at s))

-- and where it ends
abbrev pub end_at : List ℕ → ℕ → ℕ
end_at s at = start_at s at + length (first (tokens (drop at s)))

-- the first of the tokens that start at an offset, where there is one
abbrev pub first_span : ℕ → List (List ℕ) → Option Span
first_span i [] = None
first_span i (w ∷ ts) = Some (record { start = i; end = i + length w })

-- the first token at or after an offset, where one is left
abbrev pub token_at : List ℕ → ℕ → Option Span
token_at s at = first_span (start_at s at) (tokens (drop at s))

-- where the last token of a text ends
abbrev pub last_end : List ℕ → ℕ
last_end [] = 0
last_end (a ∷ s) = let n = last_end s in cond (eqb n 0 && space a) 0 (suc n)
