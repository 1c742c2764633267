-- Document 01's bench example through the three calls, by computing the definition.
use Rattle.std.specs.Prelude.{Ok, Err}
use Prim.Native.Nat.{ℕ}
use native.Mathlib.Omega.{arith}
use mathlib.Core.Path.{◌≡◌, refl}
use mathlib.Core.List.{List, [], ◌∷◌, ◌++◌}
use lib.ListN.{replicate}
use Rattle.base.specs.Ascii.{ascii}
use Rattle.decimal.specs.Decimal.{decimal}
use Rattle.token.specs.Token.{scan}
use Rattle.numbered.specs.Numbered.{carrying, plain}
use Rattle.context.specs.Gate.{gate_of}
use Rattle.machine.specs.Machine.{decode, run_of, run_to_end}
use Rattle.checks.specs.declared.VmError.TheVariants.{OutOfGas}
use Rattle.checks.specs.Verify.{operations_check}
use Rattle.grammar.specs.Parse.{parse_f, meaning}
use Rattle.scope.specs.Scope.{each}
use Rattle.contract.specs.Assembled.{assembled_tree}
use Rattle.contract.specs.Output.{output, assembled}
use Rattle.correctness.specs.Call.{Compilation}
use Rattle.correctness.specs.Statement.{Hypotheses}
use Rattle.compile.specs.Answer.{ran}
use Rattle.compile.specs.Compile.{lent, compile_of}
use Rattle.compile.specs.Numbers.{compile_numbered}

contract : List ℕ
contract = ascii "fn total (a, b) {\n  let s = a + b\n  return s * 2\n}\n"

vector : List ℕ
vector = ascii "{\"a\": 5, \"b\": 7, \"expected\": 24}"

abbrev text : List ℕ
text = ascii "# contract: tally\n# expected: 24\nPush 5\nPush 7\nAdd\nPush 2\nMul\nHalt\n"

abbrev genesis : List ℕ
genesis = replicate 64 97

-- by caller 7 under the limit g, with room for so many bytes and operations; the buffers hold what they may, and no storage is used
abbrev tally : (g bytes operations : ℕ) → Compilation
tally g bytes operations = record {
  contract = contract;
  vector = vector;
  stem = ascii "tally";
  out = replicate bytes 9;
  context = gate_of (ascii "atc") (ascii "devnet") genesis (ascii "1") (ascii "1") genesis (ascii "1") (ascii "1");
  run = record {
    kinds = replicate operations 9;
    operands = replicate operations 9;
    caller = 7;
    limit = g;
    state = record { used = 0 };
    stack = replicate 4096 9;
    work = 9 ∷ [];
    storage = 8 ∷ [];
  };
}

-- the hypotheses of the compile statement hold of it, under every limit
accepted : (g : ℕ) → Hypotheses (tally g 70 6) 67 3 2 24
unfolding assembled output decimal assembled_tree each meaning parse_f scan contract vector
accepted g = record { accepts = refl; kinds_room = refl; operands_room = refl; passes = refl; lent = refl; used = omega arith }

succeeds : compile_of (tally 7 70 6) ≡ record {
  answer = ran (carrying 0 (67 ∷ 3 ∷ 2 ∷ 24 ∷ [])) 6 (Ok (record { gas_spent = 7; operations = 6; items = 1; state = record { used = 0 } }));
  left = record { out = text ++ 9 ∷ 9 ∷ 9 ∷ []; kinds = 0 ∷ 0 ∷ 1 ∷ 0 ∷ 3 ∷ 15 ∷ []; operands = 5 ∷ 7 ∷ 0 ∷ 2 ∷ 0 ∷ 0 ∷ []; stack = 24 ∷ replicate 4095 0; work = 0 ∷ []; storage = 8 ∷ [] };
}
unfolding compile_of assembled output decimal assembled_tree each meaning parse_f scan decode run_of run_to_end operations_check contract vector
succeeds = refl

out_of_gas_lem : compile_of (tally 6 67 6) ≡ record {
  answer = ran (carrying 0 (67 ∷ 3 ∷ 2 ∷ 24 ∷ [])) 6 (Err (OutOfGas 2 1));
  left = record { out = text; kinds = 0 ∷ 0 ∷ 1 ∷ 0 ∷ 3 ∷ 15 ∷ []; operands = 5 ∷ 7 ∷ 0 ∷ 2 ∷ 0 ∷ 0 ∷ []; stack = replicate 4096 0; work = 0 ∷ []; storage = 8 ∷ [] };
}
unfolding compile_of assembled output decimal assembled_tree each meaning parse_f scan decode run_of run_to_end operations_check contract vector
out_of_gas_lem = refl

-- a byte too few, and an operation too few: nothing that a later call would write is touched
short_out : (compile_numbered (compile_of (tally 7 66 6)).answer ≡ plain 26) × ((compile_of (tally 7 66 6)).left ≡ lent (tally 7 66 6))
unfolding compile_of assembled output decimal assembled_tree each meaning parse_f scan contract vector
short_out = (refl, refl)

short_program : (compile_numbered (compile_of (tally 7 67 5)).answer ≡ carrying 32 (8 ∷ [])) × ((compile_of (tally 7 67 5)).left ≡ record { out = text; kinds = replicate 5 9; operands = replicate 5 9; stack = replicate 4096 9; work = 9 ∷ []; storage = 8 ∷ [] })
unfolding compile_of assembled output decimal assembled_tree each meaning parse_f scan contract vector
short_program = (refl, refl)

-- room for one operation more: the transition takes all of both buffers, and the `Eq` that stands behind `Halt` is not met
longer : (compile_of (tally 7 67 7)).answer ≡ ran (carrying 0 (67 ∷ 3 ∷ 2 ∷ 24 ∷ [])) 6 (Ok (record { gas_spent = 7; operations = 6; items = 1; state = record { used = 0 } }))
unfolding compile_of assembled output decimal assembled_tree each meaning parse_f scan decode run_of run_to_end operations_check contract vector
longer = refl
