-- A value, or a refusal.
pub data Outcome (E A : Type 0) : Type 0 where
  is : A → Outcome E A
  refused : E → Outcome E A

-- what follows from the value; a refusal stays
abbrev pub and_then : {E A B : Type 0} → Outcome E A → (A → Outcome E B) → Outcome E B
and_then (is a) follows = follows a
and_then (refused e) follows = refused e
