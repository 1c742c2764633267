-- `path::stem` meets its contract: by what the scan found behind the first byte.
use Rattle.std.proofs.Common.{sym, subst}
use Rattle.path.specs.Code.Scan.{LastAt}
use Rattle.path.proofs.Laws.{stem_cut, tail}
use Rattle.path.proofs.stem.Goals as goal

pub returns-in-Some : goal.returns-in-Some
returns-in-Some c = let s = c.args.name.now in sym (stem_cut s _ (subst (LastAt 0x2E (tail s)) c.in-Some.is c.last_byte.ensures))
