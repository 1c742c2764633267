-- The three calls in a row, the lent stack being zeros.
use Rattle.std.specs.Prelude.{Result}
use Prim.Native.Nat.{ℕ}
use mathlib.Core.Path.{◌≡◌, subst, ◌∙◌}
use mathlib.Core.List.{List, [], ◌∷◌}
use lib.ListN.{replicate}
use Rattle.numbered.specs.Numbered.{carrying}
use Rattle.correctness.specs.Call.{Left}
use Rattle.compile.specs.declared.Compiled.{Compiled}
use Rattle.compile.specs.declared.CompileError.{CompileError}
use Rattle.compile.specs.Numbers.{compiled_numbered}
use Rattle.compile.specs.Compile.{compile_of, Composes}
use Rattle.examples.specs.Numbers.{Gives}
use Rattle.examples.specs.Runs.{zeros}
use Rattle.examples.specs.Bench.{tally_call}
use Rattle.examples.proofs.Bench.{bench}

pub compiles : {stack : List ℕ} {r : Result Compiled CompileError} {b : Left} → stack ≡ zeros → Composes (compile_of (tally_call stack)) r b
    → Gives (compiled_numbered r) (carrying 0 (7 ∷ 6 ∷ 1 ∷ 0 ∷ [])) b.stack (24 ∷ replicate 4095 0)
compiles {stack} {r} {b} e c =
    let d = subst (λ (l : List ℕ). Composes (compile_of (tally_call l)) r b) e c in
    record { answer = d.number ∙ bench.e1_compiled; buffer = d.stack ∙ bench.e1_item }
