use Rattle.std.proofs.Common.{rules}
use Rattle.sq_words.proofs.Digits.{too_great}
use Rattle.sq_words.proofs.seeds.number_of.Goals as goal

pub returns-in-None : goal.returns-in-None
returns-in-None c = too_great c.args.digits.now c.loop-digit.digit-index c.loop-digit.number (search rules) c.loop-digit.invariant.number (search rules)
