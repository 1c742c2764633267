-- Document 01's bench example through the compile statement; and the edges between success and the two refusals, at 1 + (1 + (.. 1)).
use Rattle.std.specs.Prelude.{Some}
use Rattle.std.specs.Prelude.{Ok}
use Prim.Native.Nat.{ℕ, zero, suc, ◌≤◌}
use native.Mathlib.Omega.{arith}
use mathlib.Core.Path.{◌≡◌, refl}
use mathlib.Core.List.{List, [], ◌∷◌}
use lib.ListN.{replicate}
use Rattle.base.specs.Ascii.{ascii}
use Rattle.base.specs.Overwrite.{overwrite}
use Rattle.base.specs.Outcome.{is, refused}
use Rattle.word.specs.Apply.{add}
use Rattle.numbered.specs.declared.Numbered.{Numbered}
use Rattle.numbered.specs.Numbered.{carrying, plain}
use Rattle.decimal.specs.Decimal.{decimal}
use Rattle.token.specs.Token.{scan}
use Rattle.ops.specs.Ops.{Reading, ops_of, kinds_of, operands_of}
use Rattle.machine.specs.Machine.{out_of_gas, stack_limit_exceeded, run_to_end}
use Rattle.perform.specs.declared.State.{State}
use Rattle.perform.specs.Numbers.{run_answer_numbered}
use Rattle.perform.specs.Call.{Call}
use Rattle.perform.specs.Run.{of_run}
use Rattle.grammar.specs.Tree.{Tree, num, bin, value_of, k_of, p_of}
use Rattle.grammar.specs.Parse.{parse_f, meaning}
use Rattle.scope.specs.Scope.{each}
use Rattle.contract.specs.Assembled.{assembled_tree}
use Rattle.contract.specs.Output.{operations_of, output, assembled}
use Rattle.correctness.specs.Call.{Compilation, reading_of, transition_on}
use Rattle.correctness.specs.Statement.{gas_of, SucceedsWith, Hypotheses, CompileStatement, observed_by}
use Rattle.correctness.proofs.CompileStatement.{compile_statement}
use Rattle.correctness.proofs.Told.{told}
use Rattle.correctness.proofs.Trees.{decided, meter, metered}

tally : List ℕ
tally = ascii "fn total (a, b) {\n  let s = a + b\n  return s * 2\n}\n"

vector : List ℕ
vector = ascii "{\"a\": 5, \"b\": 7, \"expected\": 24}"

abbrev unused : State
unused = record { used = 0 }

-- buffers that hold what they may; no storage is lent
abbrev run : ℕ → ℕ → Call
run caller g = record {
  kinds = replicate 6 9;
  operands = replicate 6 9;
  caller = caller;
  limit = g;
  state = unused;
  stack = replicate 4096 9;
  work = [];
  storage = [];
}

abbrev call : ℕ → ℕ → Compilation
call caller g = record { contract = tally; vector = vector; stem = ascii "tally"; out = replicate 4096 9; context = (Ok tt); run = run caller g }

-- 67 bytes are written
tally_accepted : (caller g : ℕ) → Hypotheses (call caller g) 67 3 2 24
unfolding assembled output decimal assembled_tree each meaning parse_f scan tally vector
tally_accepted caller g = record { accepts = refl; kinds_room = refl; operands_room = refl; passes = refl; lent = refl; used = omega arith }

tally_stated : (caller g : ℕ) → CompileStatement (call caller g) 3 2 24 (observed_by (call caller g))
tally_stated caller g = compile_statement (call caller g) 67 3 2 24 (tally_accepted caller g)

-- with a limit of 7 or more: 24, for 7 gas and 6 operations
module _ (caller g : ℕ) (h : 7 ≤ g) where
  tally_succeeds : SucceedsWith (tally_stated caller g).tree 24 0 (replicate 4096 9) (observed_by (call caller g)).ending
  tally_succeeds =
      let stated = tally_stated caller g in
      let k = stated.k_counts in
      let p = stated.p_counts in
      stated.transition.success (omega arith) (omega arith)

  tally_runs : ((observed_by (call caller g)).ending.numbered ≡ carrying 0 (7 ∷ 6 ∷ 1 ∷ 0 ∷ [])) × ((observed_by (call caller g)).ending.stack ≡ 24 ∷ replicate 4095 0)
  tally_runs = let k = (tally_stated caller g).k_counts in (rw (← k) at tally_succeeds.numbered, tally_succeeds.stack)

  abbrev reading : Reading
  reading = reading_of (call caller g)

  tally_answers : (transition_on (call caller g) (overwrite 0 (kinds_of (ops_of reading)) (replicate 6 9)) (overwrite 0 (operands_of (ops_of reading)) (replicate 6 9))).answer ≡ Ok (record { gas_spent = 7; operations = 6; items = 1; state = unused })
  tally_answers = told tally_runs.0

-- n sums
nest : ℕ → Tree
nest zero = num 1
nest (suc n) = bin add (num 1) (nest n)

counts : (k_of (nest 4096) ≡ 4097) × (p_of (nest 4096) ≡ 4097) × (value_of (nest 4096) ≡ Some 4097)
unfolding nest
counts = (refl, refl, refl)

at_4096 : meter (nest 4096) 4096 0 ≡ refused (out_of_gas 1 0)
unfolding nest meter
at_4096 = refl

at_4097 : meter (nest 4096) 4097 0 ≡ refused stack_limit_exceeded
unfolding nest meter
at_4097 = refl

module _ (x : Call) (c room : ℕ) (used : List ℕ) where
  -- the number of the answer under the limit g, and what it carries
  abbrev numbered : ℕ → Numbered
  numbered g = run_answer_numbered (of_run x (run_to_end (operations_of (nest 4096)) c room g used)).answer

  -- with 4096 the push that would meet 4,096 items is not paid, with 4097 it is
  short : numbered 4096 ≡ carrying 46 (1 ∷ 0 ∷ [])
  short = rw (decided (nest 4096) 4097 counts.2 c room 4096 used, metered (nest 4096) 4096, at_4096)

  full : numbered 4097 ≡ plain 48
  full = rw (decided (nest 4096) 4097 counts.2 c room 4097 used, metered (nest 4096) 4097, at_4097)

-- one sum less fits the stack: the least limit that suffices, and one below it
fits : (p_of (nest 4095) ≡ 4096) × (gas_of (nest 4095) ≡ 12286)
unfolding nest
fits = (refl, refl)

at_12286 : meter (nest 4095) 12286 0 ≡ is 0
unfolding nest meter
at_12286 = refl

at_12285 : meter (nest 4095) 12285 0 ≡ refused (out_of_gas 2 1)
unfolding nest meter
at_12285 = refl
