use Rattle.sq_sums.proofs.Running.{word_is}
use Rattle.sq_sums.proofs.toll.word.Goals as goal

pub returns : goal.returns
returns c = word_is c.args.x c.ranges.x.fits
