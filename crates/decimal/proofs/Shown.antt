-- What `{}` writes of a number is its decimal.
use Rattle.std.proofs.Common.{◌≡◌, ℕ, ◌<◌, ◌^◌, length, arith, sym}
use Rattle.std.proofs.lemmas.Fmt.{decimal_from_appends}
use Rattle.std.specs.Fmt.{decimal as std_decimal}
use Rattle.decimal.specs.Decimal.{decimal}
use Rattle.decimal.proofs.Laws.{decimal_one, decimal_more}

pub shown : (n : ℕ) → n < 2 ^ 64 → std_decimal n ≡ decimal n
shown n h = sym (decimal_from_appends (λ (k m : ℕ). decimal m) (record { one = λ k m l. decimal_one m l; more = λ k m l. decimal_more m l }) (length (std_decimal n)) n h (omega arith))
