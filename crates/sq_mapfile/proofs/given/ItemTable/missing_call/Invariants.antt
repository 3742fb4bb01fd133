use Rattle.std.proofs.Common.{◌≡◌, drop}
use Rattle.sq_mapfile.specs.Faults.{first_missing, has_call}
use Rattle.sq_mapfile.proofs.given.ItemTable.missing_call.Given as goal

abbrev pub invariant-loop-task : goal.invariant-loop-task
invariant-loop-task l = first_missing (has_call l.self.items.now) (drop l.task-index l.tasks) ≡ first_missing (has_call l.self.items.now) l.tasks
