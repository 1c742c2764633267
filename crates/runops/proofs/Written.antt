-- The two lines of a report, from what `{}` writes of each number.
use Rattle.std.proofs.Common.{◌≡◌, ◌<◌, ◌^◌, ◌++◌, ◌∷◌, [], refl, append_assoc}
use Rattle.std.specs.Fmt.{decimal as std_decimal}
use Rattle.base.specs.Ascii.{ascii}
use Rattle.decimal.proofs.Shown.{shown}
use Rattle.runops.specs.declared.report.Report.{Report}
use Rattle.runops.specs.Report.{printed}

pub report_written : (r : Report) → r.refusal < 2 ^ 64 → r.gas_spent < 2 ^ 64 → r.operations < 2 ^ 64 → r.items < 2 ^ 64 → r.top < 2 ^ 64 → r.slots < 2 ^ 64
    → ascii "refusal gas_spent operations items top slots\n" ++ (std_decimal r.refusal ++ (32 ∷ (std_decimal r.gas_spent ++ (32 ∷ (std_decimal r.operations ++ (32 ∷ (std_decimal r.items ++ (32 ∷ (std_decimal r.top ++ (32 ∷ (std_decimal r.slots ++ (10 ∷ [])))))))))))) ≡ printed r
report_written r a b c d e f = simp (shown r.refusal a, shown r.gas_spent b, shown r.operations c, shown r.items d, shown r.top e, shown r.slots f, append_assoc) refl
