use Rattle.sq_nests.proofs.Doubling.{twins_weigh, second_lies, scope_leaves}
use Rattle.sq_nests.proofs.laws.two_sets_stand_behind_one_another.Goals as goal

pub returns-clause-weigh : goal.returns-clause-weigh
returns-clause-weigh c = twins_weigh

pub returns-clause-lie : goal.returns-clause-lie
returns-clause-lie c = second_lies

pub returns-clause-leave : goal.returns-clause-leave
returns-clause-leave c = scope_leaves
