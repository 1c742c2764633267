-- Document 01's bench examples, E1 to E10, as one group.
use Rattle.std.specs.Prelude.{ℕ, ◌≡◌, List, [], ◌∷◌, replicate}
use Rattle.base.specs.Ascii.{ascii}
use Rattle.numbered.specs.Numbered.{plain, carrying}
use Rattle.ops.specs.Ops.{read_text, answer_of}
use Rattle.ops.specs.Numbers.{parsed_ops_numbered}
use Rattle.context.specs.Gate.{gate_of, gate_numbered}
use Rattle.perform.specs.Numbers.{run_answer_numbered}
use Rattle.contract.specs.Output.{Assembly, assembled}
use Rattle.correctness.specs.Call.{Compilation}
use Rattle.compile.specs.Numbers.{compile_numbered}
use Rattle.compile.specs.Compile.{compile_of}
use Rattle.examples.specs.Runs.{operations, call, zeros, plainly, four, on_four}

abbrev pub tally : List ℕ
tally = ascii "fn total (a, b) {\n  let s = a + b\n  return s * 2\n}\n"

abbrev pub tally_vector : List ℕ
tally_vector = ascii "{\"a\": 5, \"b\": 7, \"expected\": 24}"

abbrev pub tally_ops : List ℕ
tally_ops = ascii "# contract: tally\n# expected: 24\nPush 5\nPush 7\nAdd\nPush 2\nMul\nHalt\n"

-- into a buffer of 4,096
abbrev pub tally_assembled : Assembly
tally_assembled = assembled tally tally_vector (ascii "tally") 4096

-- through the three calls in a row, by caller 7 with a limit of 7 and this stack
abbrev pub tally_call : List ℕ → Compilation
tally_call stack = record {
  contract = tally;
  vector = tally_vector;
  stem = ascii "tally";
  out = replicate 67 0;
  context = gate_of (ascii "atc") (ascii "devnet") (replicate 64 97) (ascii "1") (ascii "2") (replicate 64 97) (ascii "1") (ascii "2");
  run = call (replicate 6 0) (replicate 6 0) 7 stack four four;
}

abbrev pub precedence : List ℕ
precedence = ascii "fn f () {\n  return 7 - 2 * 3\n}\n"

abbrev pub left_to_right : List ℕ
left_to_right = ascii "fn f () {\n  return 8 / 2 / 2\n}\n"

pub record Bench : Type 0 where
  -- E1: this assembly, k 3, p 2; its run with limit 1,000; and both through `compile`
  pub e1 : tally_assembled.answer ≡ carrying 0 (67 ∷ 3 ∷ 2 ∷ 24 ∷ [])
  pub e1_text : tally_assembled.text ≡ tally_ops
  pub e1_run : run_answer_numbered (plainly tally_ops 1000).answer ≡ carrying 0 (7 ∷ 6 ∷ 1 ∷ 0 ∷ [])
  pub e1_stack : (plainly tally_ops 1000).stack ≡ 24 ∷ replicate 4095 0
  pub e1_compiled : compile_numbered (compile_of (tally_call zeros)).answer ≡ carrying 0 (7 ∷ 6 ∷ 1 ∷ 0 ∷ [])
  pub e1_item : (compile_of (tally_call zeros)).left.stack ≡ 24 ∷ replicate 4095 0
  -- E2: its run with gas 6 is 46, price 2, left 1
  pub e2 : run_answer_numbered (plainly tally_ops 6).answer ≡ carrying 46 (2 ∷ 1 ∷ [])
  -- E3: Div on an empty stack, gas 1 gives 46, gas 2 gives 47
  pub e3_price : run_answer_numbered (plainly (ascii "Div\n") 1).answer ≡ carrying 46 (2 ∷ 1 ∷ [])
  pub e3_items : run_answer_numbered (plainly (ascii "Div\n") 2).answer ≡ plain 47
  -- E4: Halt with gas 0 succeeds
  pub e4 : run_answer_numbered (plainly (ascii "Halt\n") 0).answer ≡ carrying 0 (0 ∷ 1 ∷ 0 ∷ 0 ∷ [])
  -- E5: a lone `Push 9` ends with 9; a lone `Jump 1` is 45
  pub e5_push : run_answer_numbered (plainly (ascii "Push 9\n") 1000).answer ≡ carrying 0 (1 ∷ 1 ∷ 1 ∷ 0 ∷ [])
  pub e5_stack : (plainly (ascii "Push 9\n") 1000).stack ≡ 9 ∷ replicate 4095 0
  pub e5_jump : run_answer_numbered (plainly (ascii "Jump 1\n") 1000).answer ≡ plain 45
  -- E6: with gas 1,000, four lent slots, none used: `Push 1`, `Store 3` leaves 0 0 0 1; with `Store 4` or `Store 65535` it is 51;
  -- with `Store 65536` it is 50 with 65,537
  pub e6_three : run_answer_numbered (on_four (ascii "Push 1\nStore 3\n")).answer ≡ carrying 0 (4 ∷ 2 ∷ 0 ∷ 4 ∷ [])
  pub e6_storage : (on_four (ascii "Push 1\nStore 3\n")).storage ≡ 0 ∷ 0 ∷ 0 ∷ 1 ∷ []
  pub e6_four : run_answer_numbered (on_four (ascii "Push 1\nStore 4\n")).answer ≡ plain 51
  pub e6_last : run_answer_numbered (on_four (ascii "Push 1\nStore 65535\n")).answer ≡ plain 51
  pub e6_beyond : run_answer_numbered (on_four (ascii "Push 1\nStore 65536\n")).answer ≡ carrying 50 (65537 ∷ [])
  -- E7: `Push +5` is 5; `Push -0` is 28
  pub e7_plus : parsed_ops_numbered (answer_of (read_text (ascii "Push +5") 4096)) ≡ carrying 0 (1 ∷ [])
  pub e7_operations : operations (ascii "Push +5") ≡ record { kind = 0; operand = 5 } ∷ []
  pub e7_minus : parsed_ops_numbered (answer_of (read_text (ascii "Push -0") 4096)) ≡ carrying 28 (1 ∷ 5 ∷ 2 ∷ [])
  -- E8: `Push` alone is 30
  pub e8 : parsed_ops_numbered (answer_of (read_text (ascii "Push") 4096)) ≡ carrying 30 (1 ∷ 0 ∷ 4 ∷ [])
  -- E9: `7 - 2 * 3` is 1, `8 / 2 / 2` is 2
  pub e9_precedence : (assembled precedence (ascii "{\"expected\": 1}") (ascii "f") 4096).answer ≡ carrying 0 (62 ∷ 3 ∷ 3 ∷ 1 ∷ [])
  pub e9_left : (assembled left_to_right (ascii "{\"expected\": 2}") (ascii "f") 4096).answer ≡ carrying 0 (62 ∷ 3 ∷ 2 ∷ 2 ∷ [])
  -- E10: 64 `A` against 64 `a` is 40
  pub e10 : gate_numbered (gate_of (ascii "atc") (ascii "devnet") (replicate 64 65) (ascii "1") (ascii "2")
      (replicate 64 97) (ascii "1") (ascii "2")) ≡ plain 40
