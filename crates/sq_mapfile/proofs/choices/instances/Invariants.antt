use Rattle.std.proofs.Common.{◌≡◌, ◌++◌, drop}
use Rattle.sq_mapfile.specs.Chosen.{instances_at}
use Rattle.sq_mapfile.proofs.choices.instances.Given as goal

abbrev pub invariant-loop-i : goal.invariant-loop-i
invariant-loop-i l = l.found ++ instances_at l.all l.left l.i (drop l.i l.list) ≡ instances_at l.all l.fn.digits 0 l.list
