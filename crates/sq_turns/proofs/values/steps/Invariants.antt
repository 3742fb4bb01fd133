use Rattle.std.proofs.Common.{drop}
use Rattle.sq_leaf.specs.Running as running
use Rattle.sq_deeds.specs.Deeds.{AreKept}
use Rattle.sq_turns.specs.Values.{Leads, IsPath}
use Rattle.sq_turns.proofs.values.steps.Given as goal

abbrev pub invariant-loop-step : goal.invariant-loop-step
invariant-loop-step l = record {
  path : IsPath l.setting l.next l.columns l.hole l.links.items;
  leads : Leads l.setting (running.run_each_step (drop l.step-index l.list)) (running.run_each_step l.list) l.columns l.hole l.links.items l.fn.columns l.fn.first l.fn.links.items;
  kept : AreKept l.next l.fn.columns l.columns;
}
