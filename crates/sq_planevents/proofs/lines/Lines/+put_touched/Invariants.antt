use Rattle.std.proofs.Common.{length}
use Rattle.sq_planevents.proofs.lines.Lines.+put_touched.Given as goal

abbrev pub decreases-put_touched : goal.decreases-put_touched
decreases-put_touched l = length l.flags.now
