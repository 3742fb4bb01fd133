use Rattle.std.proofs.Common.{rules}
use Rattle.sq_picks.proofs.WordsRead.{too_great}
use Rattle.sq_picks.proofs.picks.number_of.Goals as goal

pub returns-then-number-from : goal.returns-then-number-from
returns-then-number-from c = too_great c.args.digits.now c.loop-b.b-index c.loop-b.number (search rules) c.loop-b.invariant.number (search rules)
