use Rattle.std.proofs.Common.{◌≡◌, ◌++◌, drop}
use Rattle.sq_race.specs.Selection.{taken}
use Rattle.sq_race.proofs.taken.accesses.Given as goal

abbrev pub invariant-loop-number : goal.invariant-loop-number
invariant-loop-number l = l.list.items ++ taken l.uses (drop l.number-index l.numbers) ≡ taken l.uses l.numbers
