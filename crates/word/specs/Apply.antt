-- The two-sided operations, which the machine and the assembler's expressions share.
use Rattle.std.specs.Prelude.{ℕ, ◌+◌, ◌-◌, ◌*◌, ◌/◌, ◌%◌, ◌^◌, cond, ◌==◌, nat_lt}
use Rattle.std.specs.Prelude.{Option, Some, None}

pub data Binary : Type 0 where
  add : Binary
  sub : Binary
  mul : Binary
  div : Binary
  eq : Binary
  lt : Binary

-- the left operand is a, the right one, which is the stack's top item, is b; there is no value where b divides and is 0
abbrev pub apply : Binary → ℕ → ℕ → Option ℕ
apply add a b = Some ((a + b) % 2 ^ 64)
apply sub a b = Some ((a + (2 ^ 64 - b)) % 2 ^ 64)
apply mul a b = Some ((a * b) % 2 ^ 64)
apply div a b = cond (b == 0) None (Some (a / b))
apply eq a b = Some (cond (a == b) 1 0)
apply lt a b = Some (cond (nat_lt a b) 1 0)
