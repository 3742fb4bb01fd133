use Rattle.std.proofs.Common.{rules}
use Rattle.sq_areas.proofs.Apart.{all_more}
use Rattle.sq_areas.proofs.residues.+common_of.Goals as goal

pub returns : goal.returns
returns t c =
    all_more c.common_of.result c.args.number c.common.result c.args.steps.now c.in-Some.first.now c.in-Some.rest.now (search rules) c.common.ensures c.common_of.ensures
