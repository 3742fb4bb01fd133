use Rattle.std.proofs.Common.{◌≡◌, ◌++◌, map, drop}
use Rattle.sq_planlines.specs.Narrow.{word}
use Rattle.sq_planlines.proofs.words.words.Given as goal

abbrev pub invariant-loop-number : goal.invariant-loop-number
invariant-loop-number l = l.words ++ map word (drop l.number-index l.numbers) ≡ map word l.numbers
