-- What one call promises that makes the three in a row: that it does, and with it the compile statement of document 01.
use Rattle.checks.specs.declared.VmError.{VmError}
use Rattle.perform.specs.declared.Success.{Success}
use Rattle.std.specs.Prelude.{ℕ, ◌*◌, ◌≡◌, Result, Ok}
use Rattle.ops.specs.Numbers.{parsed_ops_numbered}
use Rattle.perform.specs.Numbers.{run_answer_numbered}
use Rattle.correctness.specs.Call.{Compilation, Left}
use Rattle.correctness.specs.Statement.{Hypotheses, CompileStatement, observed_in}
use Rattle.compile.specs.declared.Compiled.{Compiled}
use Rattle.compile.specs.declared.CompileError.{CompileError}
use Rattle.compile.specs.Compile.{compile_of, Composes}

-- the call answers r and leaves the buffers b: assembly answers 0, and reading with 2k operations; then the transition's answer
pub record Delivered (x : Compilation) (n k p v : ℕ) (r : Result Compiled CompileError) (b : Left) : Type 0 where
  pub transition : Result Success VmError
  pub answer : r ≡ Ok (record { assembly = record { written = n; k = k; p = p; value = v }; operations = 2 * k; answer = transition })
  pub states : CompileStatement x k p v (observed_in (parsed_ops_numbered (Ok (2 * k))) (run_answer_numbered transition) x.run.state.used b)

-- the three calls in a row; and the statement, whenever its hypotheses hold of what was passed
pub record Delivers (x : Compilation) (r : Result Compiled CompileError) (b : Left) : Type 0 where
  pub composes : Composes (compile_of x) r b
  pub states : (n k p v : ℕ) → Hypotheses x n k p v → Delivered x n k p v r b
