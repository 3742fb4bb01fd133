use Rattle.std.proofs.Common.{◌≡◌, ◌++◌, map, drop}
use Rattle.sq_planlines.specs.Narrow.{constant}
use Rattle.sq_planlines.proofs.event.path_of.Given as goal

abbrev pub invariant-loop-number : goal.invariant-loop-number
invariant-loop-number l = l.path ++ map constant (drop l.number-index l.numbers) ≡ map constant l.numbers
