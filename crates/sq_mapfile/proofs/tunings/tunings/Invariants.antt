use Rattle.std.proofs.Common.{◌≡◌, ◌++◌, drop}
use Rattle.sq_mapfile.specs.Chosen.{tunings_at}
use Rattle.sq_mapfile.proofs.tunings.tunings.Given as goal

abbrev pub invariant-loop-ways : goal.invariant-loop-ways
invariant-loop-ways l = l.found ++ tunings_at l.left (drop l.ways-index l.list) ≡ tunings_at l.fn.digits l.list
