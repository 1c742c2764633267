-- Program `runops` of document 01: what it prints of a text.
use Rattle.std.specs.Prelude.{Result, Ok, Err}
use Rattle.checks.specs.declared.VmError.{VmError}
use Rattle.std.specs.Prelude.{ℕ, zero, suc, List, [], ◌∷◌, ◌++◌, cond, ltb, length, get_or, replicate}
use Rattle.base.specs.Ascii.{ascii}
use Rattle.decimal.specs.Decimal.{decimal}
use Rattle.ops.specs.Ops.{Reading, read_text, kinds_of, operands_of}
use Rattle.base.specs.Outcome.{is, refused}
use Rattle.operation.specs.Errors.{ops_error_numbered}
use Rattle.perform.specs.declared.Success.{Success}
use Rattle.perform.specs.Call.{Call}
use Rattle.perform.specs.Numbers.{run_answer_numbered}
use Rattle.perform.specs.Run.{RunResult}
use Rattle.vm.specs.Transition.{metered_of}
use Rattle.runops.specs.declared.report.Report.{Report}

-- all but the first 0 on refusal
abbrev pub refused_with : ℕ → Report
refused_with n = record { refusal = n; gas_spent = 0; operations = 0; items = 0; top = 0; slots = 0 }

-- top 0 if no item
abbrev pub top_of : List ℕ → ℕ → ℕ
top_of stack zero = 0
top_of stack (suc below) = get_or stack below 0

-- slots is the used length
abbrev pub answered : Result Success VmError → List ℕ → Report
answered (Ok success) stack =
    record {
      refusal = (run_answer_numbered (Ok success)).number;
      gas_spent = success.gas_spent;
      operations = success.operations;
      items = success.items;
      top = top_of stack success.items;
      slots = success.state.used;
    }
answered (Err f) stack = refused_with (run_answer_numbered (Err f)).number

-- all buffers 4,096 long
abbrev pub zeros : List ℕ
zeros = replicate 4096 0

-- limit 1,000, caller 7, no storage used
abbrev pub call : (kinds operands : List ℕ) → Call
call kinds operands =
    record {
      kinds = kinds;
      operands = operands;
      caller = 7;
      limit = 1000;
      state = record { used = 0 };
      stack = zeros;
      work = zeros;
      storage = zeros;
    }

-- a metered run
unfoldable pub ran : (kinds operands : List ℕ) → RunResult
ran kinds operands = metered_of (call kinds operands)

abbrev pub run_report : (kinds operands : List ℕ) → Report
run_report kinds operands = answered (ran kinds operands).answer (ran kinds operands).stack

abbrev pub reading_report : Reading → Report
reading_report (is os) = run_report (kinds_of os) (operands_of os)
reading_report (refused e) = refused_with (ops_error_numbered e).number

-- over 65,536 bytes prints 27
abbrev pub report_of : List ℕ → Report
report_of text = cond (ltb 65536 (length text)) (refused_with 27) (reading_report (read_text text 4096))

-- a value behind a space
abbrev pub spaced : ℕ → List ℕ
spaced n = 0x20 ∷ decimal n

-- two lines: the names, then the values
abbrev pub printed : Report → List ℕ
printed r =
    ascii "refusal gas_spent operations items top slots\n"
    ++ decimal r.refusal
    ++ spaced r.gas_spent
    ++ spaced r.operations
    ++ spaced r.items
    ++ spaced r.top
    ++ spaced r.slots
    ++ (10 ∷ [])
