use Rattle.sq_areas.proofs.Apart.{both_more}
use Rattle.sq_areas.proofs.residues.+common.Goals as goal

pub returns : goal.returns
returns t c = both_more c.common.result c.args.a c.args.b c.common.ensures
