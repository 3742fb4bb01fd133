use Rattle.std.proofs.Common.{◌≡◌, take}
use Rattle.sq_plan_check.proofs.entry.views_of.Given as goal

abbrev pub invariant-loop-view : goal.invariant-loop-view
invariant-loop-view l = l.views ≡ take l.view-index l.list
