use Rattle.sq_planheads.proofs.GivenTasks.{tasks_given}
use Rattle.sq_planheads.proofs.laws.tasks_of_leaves_are_given.Goals as goal

pub returns : goal.returns
returns c = tasks_given
