-- What the program prints of some texts, by computing the definition.
use Prim.Native.Nat.{ℕ}
use mathlib.Core.Path.{◌≡◌, refl}
use mathlib.Core.List.{List}
use Rattle.base.specs.Ascii.{ascii}
use Rattle.machine.specs.Machine.{decode, run_of, run_to_end}
use Rattle.checks.specs.Verify.{operations_check}
use Rattle.runops.specs.declared.report.Report.{Report}
use Rattle.runops.specs.Report.{refused_with, ran, report_of}

-- the values in the order of the names
abbrev values : (refusal spent operations items top slots : ℕ) → Report
values refusal spent operations items top slots = record { refusal = refusal; gas_spent = spent; operations = operations; items = items; top = top; slots = slots }

-- document 01's text
abbrev tally : List ℕ
tally = ascii "# contract: tally\n# expected: 24\nPush 5\nPush 7\nAdd\nPush 2\nMul\nHalt\n"

tally_prints : report_of tally ≡ values 0 7 6 1 24 0
unfolding ran decode run_of run_to_end operations_check
tally_prints = refl

-- two items and three slots
two_items : report_of (ascii "Caller\nStore 2\nPush 9\nLoad 2\n") ≡ values 0 8 4 2 7 3
unfolding ran decode run_of run_to_end operations_check
two_items = refl

no_item : report_of (ascii "Halt\n") ≡ values 0 0 1 0 0 0
unfolding ran decode run_of run_to_end operations_check
no_item = refl

-- refused in reading, and in the run
not_an_operation : report_of (ascii "Push\n") ≡ refused_with 30
unfolding ran decode run_of run_to_end operations_check
not_an_operation = refl

divided_by_0 : report_of (ascii "Push 75\nStore 0\nPush 1\nPush 0\nDiv\n") ≡ refused_with 49
unfolding ran decode run_of run_to_end operations_check
divided_by_0 = refl
