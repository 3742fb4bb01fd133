use Rattle.std.proofs.Common.{◌≡◌, ◌++◌, drop}
use Rattle.sq_mapfile.proofs.choices.routes.Given as goal

abbrev pub invariant-loop-route : goal.invariant-loop-route
invariant-loop-route l = l.found ++ drop l.route-index l.list ≡ l.list
