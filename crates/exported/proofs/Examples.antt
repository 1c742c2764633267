-- Document 01's bench example through the three exports, with a limit of 7: what each gives, by computing, and the statement of it.
use Prim.Native.Nat.{ℕ}
use native.Mathlib.Omega.{arith}
use mathlib.Core.Path.{refl}
use mathlib.Core.List.{List, [], ◌∷◌, ◌++◌}
use lib.ListN.{replicate}
use Rattle.base.specs.Ascii.{ascii}
use Rattle.numbered.specs.Numbered.{carrying}
use Rattle.decimal.specs.Decimal.{decimal}
use Rattle.token.specs.Token.{scan}
use Rattle.context.specs.Gate.{gate_of}
use Rattle.machine.specs.Machine.{decode, run_of, run_to_end}
use Rattle.checks.specs.Verify.{operations_check}
use Rattle.grammar.specs.Parse.{parse_f, meaning}
use Rattle.scope.specs.Scope.{each}
use Rattle.contract.specs.Assembled.{assembled_tree}
use Rattle.contract.specs.Output.{output, assembled}
use Rattle.correctness.specs.Call.{Compilation}
use Rattle.correctness.specs.Statement.{CompileStatement, observed_in}
use Rattle.exported.specs.Exports.{Given, InRow, Lends}
use Rattle.exported.proofs.ExportedStatement.{exported_statement}

contract : List ℕ
contract = ascii "fn total (a, b) {\n  let s = a + b\n  return s * 2\n}\n"

vector : List ℕ
vector = ascii "{\"a\": 5, \"b\": 7, \"expected\": 24}"

abbrev text : List ℕ
text = ascii "# contract: tally\n# expected: 24\nPush 5\nPush 7\nAdd\nPush 2\nMul\nHalt\n"

abbrev genesis : List ℕ
genesis = replicate 64 97

-- by caller 7; the buffers hold what they may, and no storage is used
abbrev tally : Compilation
tally = record {
  contract = contract;
  vector = vector;
  stem = ascii "tally";
  out = replicate 70 9;
  context = gate_of (ascii "atc") (ascii "devnet") genesis (ascii "1") (ascii "1") genesis (ascii "1") (ascii "1");
  run = record {
    kinds = replicate 6 9;
    operands = replicate 6 9;
    caller = 7;
    limit = 7;
    state = record { used = 0 };
    stack = replicate 4096 9;
    work = 9 ∷ [];
    storage = 8 ∷ [];
  };
}

abbrev given : Given
given = record {
  assembly = carrying 0 (67 ∷ 3 ∷ 2 ∷ 24 ∷ []);
  reading = carrying 0 (6 ∷ []);
  transition = carrying 0 (7 ∷ 6 ∷ 1 ∷ 0 ∷ []);
  left = record { out = text ++ 9 ∷ 9 ∷ 9 ∷ []; kinds = 0 ∷ 0 ∷ 1 ∷ 0 ∷ 3 ∷ 15 ∷ []; operands = 5 ∷ 7 ∷ 0 ∷ 2 ∷ 0 ∷ 0 ∷ []; stack = 24 ∷ replicate 4095 0; work = 0 ∷ []; storage = 8 ∷ [] };
}

in_row : InRow tally 67 given
unfolding assembled output decimal assembled_tree each meaning parse_f scan decode run_of run_to_end operations_check contract vector
in_row = record {
  assembles = record { tells = record { number = refl; words = refl }; buffer = refl };
  reads = record { tells = record { number = refl; words = refl }; kinds_written = refl; operands_written = refl };
  runs = record { tells = record { number = refl; words = refl }; stack_left = refl; work_left = refl; storage_left = refl };
}

lends : Lends tally 67 3 2 24 given
lends = record { accepts = refl; kinds = refl; operands = refl; passes = refl; stack = omega arith; work = refl; within = omega arith; used = omega arith }

stated : CompileStatement tally 3 2 24 (observed_in given.reading given.transition 0 given.left)
stated = exported_statement tally 67 3 2 24 given in_row lends
