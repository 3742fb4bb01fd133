use Rattle.std.proofs.Common.{◌*◌, length, map, take}
use Rattle.sq_leaf.specs.Running as running
use Rattle.sq_turns.specs.Plans.{AreDeeds}
use Rattle.sq_turns.proofs.plan.plan_each.Given as goal

abbrev pub invariant-loop-action : goal.invariant-loop-action
invariant-loop-action l = AreDeeds l.setting (2 * length l.deeds.items) (map running.run_action (take l.action-index l.body)) l.columns l.next l.deeds.items
