use Rattle.std.proofs.Common.{◌≡◌, ◌++◌, drop}
use Rattle.sq_mapfile.proofs.choices.sizes.Given as goal

abbrev pub invariant-loop-size : goal.invariant-loop-size
invariant-loop-size l = l.found ++ drop l.size-index l.list ≡ l.list
