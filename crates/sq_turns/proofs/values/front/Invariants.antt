use Rattle.std.proofs.Common.{◌≡◌, drop}
use Rattle.sq_leaf.specs.Running as running
use Rattle.sq_turns.specs.Settings.{Follows}
use Rattle.sq_deeds.specs.Deeds.{AreKept}
use Rattle.sq_turns.proofs.values.front.Given as goal

abbrev pub invariant-loop-step : goal.invariant-loop-step
invariant-loop-step l = record {
  follows : Follows l.setting (running.run_each_step (drop l.step-index l.list)) (running.run_each_step l.list) l.x (drop l.next l.columns) l.fn.first (drop l.next l.fn.columns);
  count : l.count ≡ l.step-index;
  kept : AreKept l.next l.fn.columns l.columns;
}
