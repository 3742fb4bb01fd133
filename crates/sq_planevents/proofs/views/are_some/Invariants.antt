use Rattle.std.proofs.Common.{◌≡◌, drop}
use Rattle.sq_planevents.specs.Views.{are_some}
use Rattle.sq_planevents.proofs.views.are_some.Given as goal

abbrev pub invariant-loop-n : goal.invariant-loop-n
invariant-loop-n l = are_some (drop l.n-index l.numbers) ≡ are_some l.numbers
