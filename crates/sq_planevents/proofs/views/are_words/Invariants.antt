use Rattle.std.proofs.Common.{◌≡◌, drop}
use Rattle.sq_planevents.specs.Views.{are_words}
use Rattle.sq_planevents.proofs.views.are_words.Given as goal

abbrev pub invariant-loop-n : goal.invariant-loop-n
invariant-loop-n l = are_words (drop l.n-index l.numbers) ≡ are_words l.numbers
