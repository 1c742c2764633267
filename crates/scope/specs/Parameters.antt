-- The parameters, bound in order to the vector's numbers.
use Rattle.std.specs.Prelude.{Result, Ok, Err}
use Rattle.source.specs.declared.vector.KeyError.{KeyError}
use Rattle.std.specs.Prelude.{ℕ, List}
use Rattle.numbered.specs.Numbered.{located}
use Rattle.numbered.specs.declared.Numbered.{Numbered}
use Rattle.base.specs.Outcome.{Outcome, is, refused, and_then}
use Rattle.source.specs.Vector.{vector_number, key_error_numbered}
use Rattle.grammar.specs.Tree.{num}
use Rattle.scope.specs.Scope.{Scope, bound}

-- a key's number, or the refusal with the key's place
abbrev pub keyed : Result ℕ KeyError → ℕ → Outcome Numbered ℕ
keyed (Ok n) place = is n
keyed (Err e) place = refused (located (key_error_numbered e) place)

-- the parameter with a place, one more binding
abbrev pub parameter_bound : List ℕ → ℕ → Scope → List ℕ → Outcome Numbered Scope
parameter_bound vector place st name = and_then (keyed (vector_number vector name) place) (λ n. bound st name (num n))
