-- `key::Sought::find_far` meets its contract: the pattern that is sought is the key in double quotes.
use Rattle.key.proofs.Quoted.{nowhere_else}
use Rattle.key.proofs.Sought.find_far.Goals as goal

pub returns-then-key-gt-MOST : goal.returns-then-key-gt-MOST
returns-then-key-gt-MOST c =
    let w = c in
    nowhere_else w.args.self.s.now w.args.self.key.now w.args.at w.args.self.stop w.args.self.room c.find_before.result c.find_before.ensures
