-- Document 01's bench examples hold, by computing the definitions.
use mathlib.Core.Path.{refl}
use Rattle.decimal.specs.Decimal.{decimal}
use Rattle.token.specs.Token.{scan}
use Rattle.grammar.specs.Parse.{parse_f, meaning}
use Rattle.machine.specs.Machine.{decode, run_of, run_to_end}
use Rattle.checks.specs.Verify.{operations_check}
use Rattle.scope.specs.Scope.{each}
use Rattle.contract.specs.Assembled.{assembled_tree}
use Rattle.contract.specs.Output.{output, assembled}
use Rattle.compile.specs.Compile.{compile_of}
use Rattle.examples.specs.Runs.{ran}
use Rattle.examples.specs.Bench.{Bench}

pub bench : Bench
unfolding ran compile_of decode run_of run_to_end operations_check assembled output decimal assembled_tree each meaning parse_f scan
bench = record {
  e1 = refl;
  e1_text = refl;
  e1_run = refl;
  e1_stack = refl;
  e1_compiled = refl;
  e1_item = refl;
  e2 = refl;
  e3_price = refl;
  e3_items = refl;
  e4 = refl;
  e5_push = refl;
  e5_stack = refl;
  e5_jump = refl;
  e6_three = refl;
  e6_storage = refl;
  e6_four = refl;
  e6_last = refl;
  e6_beyond = refl;
  e7_plus = refl;
  e7_operations = refl;
  e7_minus = refl;
  e8 = refl;
  e9_precedence = refl;
  e9_left = refl;
  e10 = refl;
}
