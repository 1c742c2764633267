-- `word::wrapping_mul` meets its contract: the sum is the product modulo 2^64.
use Rattle.std.proofs.Common.{refl}
use Rattle.word.proofs.Halves.{modulo}
use Rattle.word.proofs.wrapping_mul.Goals as goal

pub returns : goal.returns
returns c = modulo c.args.a c.args.b _ _ refl refl
