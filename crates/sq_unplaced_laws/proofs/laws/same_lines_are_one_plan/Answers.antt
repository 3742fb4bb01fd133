use Rattle.sq_unplaced_laws.proofs.Plans.{moved_plan, moved_arrays, moved_good}
use Rattle.sq_unplaced_laws.proofs.laws.same_lines_are_one_plan.Goals as goal

pub returns-clause-moved : goal.returns-clause-moved
returns-clause-moved c x y same = (moved_plan x y same, moved_arrays x y same)

pub returns-clause-good : goal.returns-clause-good
returns-clause-good c p q moved good = moved_good p q moved good
