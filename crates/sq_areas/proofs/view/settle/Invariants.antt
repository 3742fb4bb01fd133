use Rattle.std.proofs.Common.{◌≤◌, length}
use Rattle.sq_areas.specs.Alike.{AreAlike, AreMany}
use Rattle.sq_areas.proofs.view.settle.Given as goal

abbrev pub invariant-loop-i : goal.invariant-loop-i
invariant-loop-i l = record {
  alike : AreAlike l.fn.run l.fn.steps l.run l.steps;
  many : AreMany l.fn.steps → AreMany l.steps;
  more : l.fn.run ≤ l.run;
}

abbrev pub decreases-loop-i : goal.decreases-loop-i
decreases-loop-i l = length l.steps
