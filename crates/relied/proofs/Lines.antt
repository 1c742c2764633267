-- How many lines a text has, and how many bytes they take.
use Prim.Native.Nat.{ℕ, suc, ◌+◌, ◌≤◌}
use mathlib.Core.List.{List, [], ◌∷◌}
use mathlib.Core.Bool.{Bool, true, false, cond, ◌&&◌}
use native.Mathlib.Omega.{arith}
use lib.Dec.{eqb}
use lib.ListN.{length}
use Rattle.lines.specs.Lines.{front, feed_next, lines}
use Rattle.relied.specs.Reading.{feeds}

-- the lines with an ending for each
abbrev pub size : List (List ℕ) → ℕ
size [] = 0
size (l ∷ ls) = length l + 1 + size ls

front_size : (a : ℕ) (ls : List (List ℕ)) (n : ℕ) → size ls ≤ n + 1 → size (front a ls) ≤ suc n + 1
front_size a [] n h = omega arith
front_size a (l ∷ ls) n h = omega arith

front_count : (a : ℕ) (ls : List (List ℕ)) (n : ℕ) → length ls ≤ 1 + n → length (front a ls) ≤ 1 + n
front_count a [] n h = omega arith
front_count a (l ∷ ls) n h = h

-- the last ending is optional
pub lines_size : (s : List ℕ) → size (lines s) ≤ length s + 1
lines_size [] = omega arith
lines_size (a ∷ s) = go (eqb a 10) (eqb a 13 && feed_next s) (lines_size s)
  where
    go : (p q : Bool) → size (lines s) ≤ length s + 1
        → size (elim p as (λ _. List (List ℕ)) [ true ↦ [] ∷ lines s | false ↦ elim q as (λ _. List (List ℕ)) [ true ↦ lines s | false ↦ front a (lines s) ] ]) ≤ suc (length s) + 1
    go true q h = omega arith
    go false true h = omega arith
    go false false h = front_size a (lines s) (length s) h

pub lines_count : (s : List ℕ) → length (lines s) ≤ 1 + feeds s
lines_count [] = omega arith
lines_count (a ∷ s) = go (eqb a 10) (eqb a 13 && feed_next s) (lines_count s)
  where
    go : (p q : Bool) → length (lines s) ≤ 1 + feeds s
        → length {A = List ℕ} (elim p as (λ _. List (List ℕ)) [ true ↦ [] ∷ lines s | false ↦ elim q as (λ _. List (List ℕ)) [ true ↦ lines s | false ↦ front a (lines s) ] ]) ≤ 1 + cond p (suc (feeds s)) (feeds s)
    go true q h = omega arith
    go false true h = h
    go false false h = front_count a (lines s) (feeds s) h
