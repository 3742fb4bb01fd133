use Rattle.std.proofs.Common.{◌≡◌, drop}
use Rattle.sq_mapfile.specs.Chosen.{all_past}
use Rattle.sq_mapfile.proofs.tunings.digits_past.Given as goal

abbrev pub invariant-loop-ways : goal.invariant-loop-ways
invariant-loop-ways l = all_past l.left (drop l.ways-index l.list) ≡ all_past l.fn.digits l.list
