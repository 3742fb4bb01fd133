use Rattle.std.proofs.Common.{◌≡◌, [], drop}
use Rattle.sq_race.specs.Selection.{written}
use Rattle.sq_race.proofs.taken.written.Given as goal

abbrev pub invariant-loop-number : goal.invariant-loop-number
invariant-loop-number l = written l.map l.uses l.arrays.items (drop l.number-index l.numbers) ≡ written l.map l.uses [] l.numbers
