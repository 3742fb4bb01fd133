use Rattle.sq_overlap_laws.proofs.Plans.{sums_are_taken_needs}
use Rattle.sq_overlap_laws.proofs.laws.sums_are_taken_needs.Goals as goal

pub returns : goal.returns
returns c = sums_are_taken_needs
