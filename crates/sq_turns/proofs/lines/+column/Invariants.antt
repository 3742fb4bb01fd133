use Rattle.std.proofs.Common.{drop}
use Rattle.sq_leaf.specs.Running as running
use Rattle.sq_turns.specs.Settings.{Follows}
use Rattle.sq_turns.proofs.lines.+column.Given as goal

abbrev pub invariant-steps-loop-step : goal.invariant-steps-loop-step
invariant-steps-loop-step l =
    Follows l.setting (running.run_each_step (drop l.step-index l.list)) (running.run_each_step l.list) l.x l.columns l.fn.first l.fn.columns
